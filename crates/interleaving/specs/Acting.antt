-- What a step of an actor is answered, and what it leaves of the drive and of the actor.
use Rattle.std.specs.Prelude.{◌≡◌, ◌⊎◌, ℕ, false, true, Option, None, Some, IsSome, Result, Ok, Err, IfOk, OnOk, OnErr, MatchResult}
use mathlib.Core.List.{IsPrefix}
use Rattle.s4_types.specs.Sizes.{ReplyFits}
use Rattle.s4_types.specs.declared.requests.Request.{Request}
use Rattle.s4_types.specs.declared.requests.Request.TheVariants.{Query}
use Rattle.s4_types.specs.declared.requests.Question.TheVariants.{Read}
use Rattle.s4_types.specs.declared.replies.Reply.{Reply}
use Rattle.s4_types.specs.declared.refusals.Refusal.{Refusal}
use Rattle.s4_types.specs.declared.refusals.Refusal.TheVariants.{NoObject, NoMemory, NoRoom, Busy, Stale}
use Rattle.s4_model.specs.Step.{Step}
use Rattle.segment_word.specs.AcceptViews.{with_moment, caught_up}
use Rattle.segment_word.specs.AcceptRule.{FitsLedger}
use Rattle.object_map.specs.Rows.{row_of}
use Rattle.time_read.specs.Plans.{PlanFields, bytes_planned}
use Rattle.drive.specs.Fields.{DriveFields, SessionFields, history_of, state_in, store_of}
use Rattle.drive.specs.Keeping.{KeepsVersions}
use Rattle.drive.specs.Refusing.{RefusesExactly, LacksMemoryInPlace}
use Rattle.drive.specs.Answering.{IsPlanOf, Leaves, reply_planned, told_after, owners_after}
use Rattle.interleaving.specs.Actors.{ActorFields}
use Rattle.interleaving.specs.Moving.{Move, Moving, Still, Planned, Copied, IsCurrent, IsMoveOf, HoldsNone}
use Rattle.interleaving.specs.declared.answers.Answer.{Answer}
use Rattle.interleaving.specs.declared.answers.Answer.TheVariants as answer
use Rattle.interleaving.specs.declared.acts.Act.{Act}
use Rattle.interleaving.specs.declared.acts.Act.TheVariants as act

-- the answer to a call that came to this
abbrev pub answer_to : {A : Type 0} → Result A Refusal → Answer
answer_to (Ok value) = answer.Done
answer_to (Err refusal) = answer.Refused refusal

-- an actor that was told more
abbrev pub with_told : ActorFields → SessionFields → ActorFields
with_told a session = record a { session = session }

-- Nothing is to be done for lack of a plan: all is as it was.
pub record IsIdle (a : ActorFields) (x : Answer) (b : ActorFields) : Type 0 where
  pub answer : x ≡ answer.Idle
  pub actor : b ≡ a

-- A request: the model's step on the history, answered with its reply.
pub record Requests (request : Request) (now : ℕ) (d : DriveFields) (a : ActorFields) (x : Answer) (later : DriveFields) (b : ActorFields) : Type 0 where
  pub reply : Reply
  pub answer : x ≡ answer.Reply reply
  pub step : Step (history_of d) a.session.role request now reply (history_of later)
  pub refused : RefusesExactly d a.session.role request now reply later
  pub memory : LacksMemoryInPlace d a.session.role request now reply
  pub stored : Leaves (store_of d) (state_in d) request now reply (store_of later)
  pub fits : ReplyFits reply
  pub owners : later.ledger.owners ≡ owners_after reply a.session.told.seat d.ledger.owners
  pub before : FitsLedger d.ledger a.session.told
  pub after : FitsLedger later.ledger b.session.told
  pub actor : b ≡ with_told a (record a.session { told = told_after reply later.ledger a.session.told })

-- the plan that an actor has once a read was resolved: the new one, or the older one where it was refused
abbrev pub plan_after : Result PlanFields Refusal → Option PlanFields → Option PlanFields
plan_after (Ok plan) older = Some plan
plan_after (Err refusal) older = older

-- A read is resolved: the model's step of that read, with the bytes that the plan names in place of those read. The new plan
-- takes the place of an older one; where it is refused the older one stays.
pub record Resolves (object offset len : ℕ) (at : Option ℕ) (now : ℕ) (d : DriveFields) (a : ActorFields) (x : Answer) (later : DriveFields) (b : ActorFields) : Type 0 where
  pub planned : Result PlanFields Refusal
  pub answer : x ≡ answer_to planned
  pub step : Step (history_of d) a.session.role (Query (Read object offset len at)) now (reply_planned planned) (history_of later)
  pub refused : RefusesExactly d a.session.role (Query (Read object offset len at)) now (reply_planned planned) later
  pub memory : LacksMemoryInPlace d a.session.role (Query (Read object offset len at)) now (reply_planned planned)
  pub plan : IfOk planned (IsPlanOf later object offset len at)
  pub fits : ReplyFits (reply_planned planned)
  pub ledger : later.ledger ≡ with_moment d.ledger now
  pub store : store_of later ≡ store_of d
  pub before : FitsLedger d.ledger a.session.told
  pub after : FitsLedger later.ledger b.session.told
  pub actor : b ≡ record a { session = record a.session { told = caught_up later.ledger a.session.told }; plan = plan_after planned a.plan }

-- the answer to a fetch of a plan: the bytes that it names, or lack of memory for them
abbrev pub IsFetched : PlanFields → Answer → Type 0
IsFetched plan x = (x ≡ answer.Bytes (bytes_planned plan)) ⊎ (x ≡ answer.Refused NoMemory)

-- A plan is fetched, and spent whatever is answered.
pub record IsSpentFor (plan : PlanFields) (a : ActorFields) (x : Answer) (b : ActorFields) : Type 0 where
  pub answer : IsFetched plan x
  pub actor : b ≡ record a { plan = None }

abbrev pub FetchesBy : Option PlanFields → ActorFields → Answer → ActorFields → Type 0
FetchesBy None a x b = IsIdle a x b
FetchesBy (Some plan) a x b = IsSpentFor plan a x b

-- a fetch of the plan that the actor has
abbrev pub Fetches : ActorFields → Answer → ActorFields → Type 0
Fetches a x b = FetchesBy a.plan a x b

-- The actor's session has seen all accepted changes.
pub record Meets (d : DriveFields) (a : ActorFields) (x : Answer) (later : DriveFields) (b : ActorFields) : Type 0 where
  pub answer : x ≡ answer.Done
  pub drive : later ≡ d
  pub grows : IsPrefix a.session.told.seen b.session.told.seen
  pub before : FitsLedger d.ledger a.session.told
  pub after : FitsLedger later.ledger b.session.told
  pub actor : b ≡ with_told a (record a.session { told = caught_up d.ledger a.session.told })

-- What an actor has of a move once one was planned: the new plan in place of an older one, or of one that was copied; where
-- it is refused, what it had.
abbrev pub moving_after : Result Move Refusal → Moving → Moving
moving_after (Ok move) older = Planned move
moving_after (Err refusal) older = older

-- Why a move of an object isn't planned: NoObject exactly where the object has no row; else lack of memory or of a pin.
abbrev pub IsUnplanned : DriveFields → ℕ → Refusal → Type 0
IsUnplanned d object refusal = ((refusal ≡ NoObject) × (row_of d.store.rows object ≡ None)) ⊎ (((refusal ≡ NoMemory) ⊎ (refusal ≡ Busy)) × IsSome (row_of d.store.rows object))

-- A move is planned, or refused. The history and the objects are as they were.
pub record Plans (frame object : ℕ) (d : DriveFields) (a : ActorFields) (x : Answer) (later : DriveFields) (b : ActorFields) : Type 0 where
  pub planned : Result Move Refusal
  pub answer : x ≡ answer_to planned
  pub told : MatchResult planned (IsMoveOf d frame object) (IsUnplanned d object)
  pub ledger : later.ledger ≡ d.ledger
  pub store : store_of later ≡ store_of d
  pub actor : b ≡ record a { moving = moving_after planned a.moving }

-- A planned move is copied, and the plan spent: the actor has the copied move, or nothing where memory is refused.
abbrev pub HasCopied : Move → ActorFields → Answer → ActorFields → Type 0
HasCopied move a x b = ((x ≡ answer.Done) × (b ≡ record a { moving = Copied move })) ⊎ ((x ≡ answer.Refused NoMemory) × (b ≡ record a { moving = Still }))

abbrev pub CopiesBy : Moving → ActorFields → Answer → ActorFields → Type 0
CopiesBy Still a x b = IsIdle a x b
CopiesBy (Planned move) a x b = HasCopied move a x b
CopiesBy (Copied move) a x b = IsIdle a x b

-- a copy of the move that the actor has planned
abbrev pub Copies : ActorFields → Answer → ActorFields → Type 0
Copies a x b = CopiesBy a.moving a x b

-- Why a move isn't put in place: Stale exactly where it is out of date, which is looked at first; else lack of room or of memory.
abbrev pub IsUnmoved : DriveFields → Move → Refusal → Type 0
IsUnmoved d move refusal = ((refusal ≡ Stale) × (IsCurrent d move → ⊥)) ⊎ (((refusal ≡ NoRoom) ⊎ (refusal ≡ NoMemory)) × IsCurrent d move)

-- A copied move is put in place, or refused. The history and every needed version are as they were. Where the move isn't empty
-- the object holds no block in the frame that it left; an empty one changes nothing, and neither does one that is refused.
pub record Commits (commits : Move → DriveFields → Result (Unit {0}) Refusal → DriveFields → Type 0) (move : Move) (d : DriveFields) (done : Result (Unit {0}) Refusal) (later : DriveFields) : Type 0 where
  pub own : commits move d done later
  pub told : MatchResult done (λ _. IsCurrent d move) (IsUnmoved d move)
  pub left : OnOk done (move.is_empty ≡ false → HoldsNone later.store.table move.object move.frame)
  pub empty : OnOk done (move.is_empty ≡ true → store_of later ≡ store_of d)
  pub unchanged : OnErr done (store_of later ≡ store_of d)
  pub ledger : later.ledger ≡ d.ledger
  pub needed : KeepsVersions (state_in d) (store_of d) (store_of later)

module _ (commits : Move → DriveFields → Result (Unit {0}) Refusal → DriveFields → Type 0) where
  -- The actor's move is spent, whatever is answered.
  pub record IsCommittedFor (move : Move) (d : DriveFields) (a : ActorFields) (x : Answer) (later : DriveFields) (b : ActorFields) : Type 0 where
    pub done : Result (Unit {0}) Refusal
    pub answer : x ≡ answer_to done
    pub puts : Commits commits move d done later
    pub actor : b ≡ record a { moving = Still }

  abbrev pub PutsBy : Moving → DriveFields → ActorFields → Answer → DriveFields → ActorFields → Type 0
  PutsBy Still d a x later b = (later ≡ d) × IsIdle a x b
  PutsBy (Planned move) d a x later b = (later ≡ d) × IsIdle a x b
  PutsBy (Copied move) d a x later b = IsCommittedFor move d a x later b

  -- the move that the actor has copied is put in place
  abbrev pub Puts : DriveFields → ActorFields → Answer → DriveFields → ActorFields → Type 0
  Puts d a x later b = PutsBy a.moving d a x later b

  -- What an act of an actor is answered, and what it leaves.
  abbrev pub Acts : Act → DriveFields → ActorFields → Answer → DriveFields → ActorFields → Type 0
  Acts (act.Request request now) d a x later b = Requests request now d a x later b
  Acts (act.Resolve r) d a x later b = Resolves r.object r.offset r.length r.at r.now d a x later b
  Acts act.Fetch d a x later b = (later ≡ d) × Fetches a x b
  Acts act.Meet d a x later b = Meets d a x later b
  Acts (act.Plan frame object) d a x later b = Plans frame object d a x later b
  Acts act.Copy d a x later b = (later ≡ d) × Copies a x b
  Acts act.Commit d a x later b = Puts d a x later b
