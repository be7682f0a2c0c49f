-- What a session was told after a plan, and after one that couldn't be fetched.
use Rattle.std.proofs.Common.{◌≡◌, ◌≤◌, ℕ, Bool, true, false, if◌then◌else◌, List, [], ◌∷◌, Option, None, Result, Ok, Err, inl, inr, refl, sym, ap, subst, ◌∙◌, arith}
use Rattle.std.specs.Prelude.{IfOk}
use Rattle.std.proofs.lemmas.Option.{none-some}
use Rattle.atomic_table.specs.Seated.{TableId}
use Rattle.s4_types.specs.History.{Base, History, accepted}
use Rattle.s4_types.specs.Sizes.{ReplyFits}
use Rattle.s4_types.specs.declared.requests.Role.{Role}
use Rattle.s4_types.specs.declared.requests.Request.{Request}
use Rattle.s4_types.specs.declared.requests.Request.TheVariants.{Query}
use Rattle.s4_types.specs.declared.requests.Question.TheVariants.{Read}
use Rattle.s4_types.specs.declared.replies.Reply.{Reply}
use Rattle.s4_types.specs.declared.replies.Reply.TheVariants.{Data, Refused}
use Rattle.s4_types.specs.declared.refusals.Refusal.{Refusal}
use Rattle.s4_types.specs.declared.refusals.Refusal.TheVariants.{NoMemory}
use Rattle.s4_model.specs.Sound.{IsSound}
use Rattle.s4_model.specs.State.{grown}
use Rattle.s4_model.specs.Refusals.{first_refusal}
use Rattle.s4_model.specs.Step.{Step, Refuses, Serves, Alters, Reads, ForMemory, MayWantMemory, judged}
use Rattle.segment_word.specs.AcceptViews.{Ledger, Told, caught_up, credited, with_moment}
use Rattle.segment_word.specs.AcceptRule.{FitsLedger}
use Rattle.segment_table.specs.Rules.{HasFramesInOrder}
use Rattle.version_store.specs.Store.{IsStore}
use Rattle.time_read.specs.Plans.{PlanFields, bytes_planned}
use Rattle.drive.specs.Fields.{DriveFields, SessionFields, history_of, state_in, store_of}
use Rattle.drive.specs.Keeping.{DecodesWhereVisible}
use Rattle.drive.specs.Opened.{NoneFrom}
use Rattle.drive.specs.Refusing.{RefusesLeaving, LacksMemoryInPlace}
use Rattle.drive.specs.Answering.{told_after, is_acceptance, reply_planned}
use Rattle.server.specs.Attending.{IsSeated}
use Rattle.server.specs.Drawing.{MayGoOn}
use Rattle.server.specs.Sequence.{HasCome, IsAnswered, moments_of}
use Rattle.server.proofs.Sequence.{moments_counted}
use Rattle.server.specs.Reserve.{least_of}
use Rattle.server.specs.Sharing.{SharedStep, SharedAnswer, IsFetched, IsFresh}

-- whether a change of it was accepted or not, it has seen all
seen_by : (b : Bool) (l : Ledger) (t : Told) → (if b then credited l t else caught_up l t).seen ≡ accepted l.history
seen_by true l t = refl
seen_by false l t = refl

-- a plan accepts nothing
pub planned_told : (planned : Result PlanFields Refusal) (l : Ledger) (t : Told) → told_after (reply_planned planned) l t ≡ caught_up l t
planned_told (Ok plan) l t = refl
planned_told (Err refusal) l t = refl

-- so its reply is no acceptance
pub planned_accepts : (planned : Result PlanFields Refusal) → is_acceptance (reply_planned planned) ≡ false
planned_accepts (Ok plan) = refl
planned_accepts (Err refusal) = refl

-- and it leaves all that is stored, and whose each change is
pub planned_answered : (planned : Result PlanFields Refusal) (d e : DriveFields) (seat : ℕ) (role : Role) (request : Request) (now : ℕ) → Step (history_of d) role request now (reply_planned planned) (history_of e) → store_of e ≡ store_of d
    → e.ledger ≡ with_moment d.ledger now → IsAnswered d seat role request now (reply_planned planned) e
planned_answered (Ok plan) d e seat role request now step store ledger = record { step = step; stored = store; owners = ap (λ (l : Ledger). l.owners) ledger }
planned_answered (Err refusal) d e seat role request now step store ledger = record { step = step; stored = store; owners = ap (λ (l : Ledger). l.owners) ledger }

-- A request was answered by a drive of which what always holds of one holds, and which had all that the session had seen.
abbrev pub shared_step : (base : Base) (reserve : ℕ) (frames : TableId) (d e : DriveFields) (old new : SessionFields) (request : Request) (now : ℕ) (reply : Reply)
    → (history_of d).base ≡ base → DecodesWhereVisible (store_of d) (state_in d) → HasFramesInOrder frames d.store.table → IsSound (state_in d) → IsStore (store_of d) → (store_of d).latest ≤ (state_in d).clock → NoneFrom (state_in d).next (store_of d)
    → FitsLedger d.ledger old.told → IsAnswered d old.told.seat old.role request now reply e → RefusesLeaving (least_of reserve (state_in d) old.role request) d old.role request now reply e → LacksMemoryInPlace d old.role request now reply
    → new ≡ record old { told = told_after reply e.ledger old.told } → FitsLedger e.ledger new.told → SharedStep base reserve old request now reply new
shared_step base reserve frames d e old new request now reply begins decodes in_order sound store past unborn had_seen one refused memory told has_seen = record {
  before = d;
  after = e;
  there = record {
    begins = begins;
    decodes = decodes;
    frames = subst (λ (t : TableId). HasFramesInOrder t d.store.table) (sym in_order.table) in_order;
    sound = sound;
    store = store;
    past = past;
    unborn = unborn;
  };
  had_seen = had_seen;
  step = one.step;
  refused = refused;
  memory = memory;
  stored = one.stored;
  owners = one.owners;
  told = told;
  has_seen = has_seen;
}

-- so it was at the moment that was drawn, after at least as many requests as its part of the books has
pub shared_answer : {C : Type 0} (draws : C → ℕ → C → Type 0) (begins : DriveFields → Type 0) (moments : List ℕ → Type 0) (has_upkeep : Bool) (requests changes own : ℕ) (base : Base) (reserve : ℕ) (clock later : C) (now : ℕ) (old new : SessionFields) (request : Request) (reply : Reply) (d : DriveFields)
    → HasCome begins (MayGoOn draws moments clock) has_upkeep requests changes d → draws clock now later → own ≤ requests → (step : SharedStep base reserve old request now reply new) → SharedAnswer base reserve moments own old request reply new (state_in step.after).clock
shared_answer draws begins moments has_upkeep requests changes own base reserve clock later now old new request reply d come draw bound step =
    let all = moments_counted come.events in
    let answered = come.answered in
    record {
      before = moments_of come.events;
      now = now;
      drawn = come.drawn (now ∷ []) later (later, draw, refl);
      late = omega (arith, bound, all, answered);
      step = step;
      came_to = refl;
    }

-- whether a reply is a refusal
abbrev pub IsRefused : Reply → Type 0
IsRefused (Refused refusal) = Unit {0}
IsRefused _ = ⊥

free_wants : (first : Option Refusal) → first ≡ None → (o off len : ℕ) (at : Option ℕ) → MayWantMemory first (Query (Read o off len at))
free_wants first free o off len at = subst (λ (r : Option Refusal). MayWantMemory r (Query (Read o off len at))) (sym free) tt

-- a read that is answered may be refused for lack of memory in place of that
unfetched : (h after : History) (role : Role) (o off len now : ℕ) (at : Option ℕ) (bytes : List ℕ) → Step h role (Query (Read o off len at)) now (Data bytes) after → Step h role (Query (Read o off len at)) now (Refused NoMemory) after
unfetched h after role o off len now at bytes (Refuses refusal is may grows) = absurd (subst IsRefused (sym is) tt)
unfetched h after role o off len now at bytes (Serves r free (Alters change asked reply is) grows) = absurd (none-some change asked)
unfetched h after role o off len now at bytes (Serves r free (Reads tells is) grows) =
    Refuses NoMemory refl (ForMemory refl (free_wants (first_refusal (judged h (Query (Read o off len at)) now) role (Query (Read o off len at))) free o off len at)) (grows ∙ ap (grown h) is)

-- and no check refuses it then
fetch_free : (h after : History) (role : Role) (o off len now : ℕ) (at : Option ℕ) (bytes : List ℕ) → Step h role (Query (Read o off len at)) now (Data bytes) after → first_refusal (judged h (Query (Read o off len at)) now) role (Query (Read o off len at)) ≡ None
fetch_free h after role o off len now at bytes (Refuses refusal is may grows) = absurd (subst IsRefused (sym is) tt)
fetch_free h after role o off len now at bytes (Serves r free accepts grows) = free

-- so of a session that shares its drive
pub shared_unfetched : (base : Base) (reserve : ℕ) (old new : SessionFields) (o off len now : ℕ) (at : Option ℕ) (bytes : List ℕ) → SharedStep base reserve old (Query (Read o off len at)) now (Data bytes) new → SharedStep base reserve old (Query (Read o off len at)) now (Refused NoMemory) new
shared_unfetched base reserve old new o off len now at bytes s = record {
  before = s.before;
  after = s.after;
  there = s.there;
  had_seen = s.had_seen;
  step = unfetched (history_of s.before) (history_of s.after) old.role o off len now at bytes s.step;
  refused = inl (refl, s.refused);
  memory = λ _. fetch_free (history_of s.before) (history_of s.after) old.role o off len now at bytes s.step;
  stored = s.stored;
  owners = s.owners;
  told = s.told;
  has_seen = s.has_seen;
}

-- a plan that was fetched, or couldn't be: the drive came to the same
pub shared_fetched : (base : Base) (reserve : ℕ) (old new : SessionFields) (o off len now : ℕ) (at : Option ℕ) (planned : Result PlanFields Refusal) (reply : Reply)
    → (s : SharedStep base reserve old (Query (Read o off len at)) now (reply_planned planned) new) → IsFetched planned reply → (t : SharedStep base reserve old (Query (Read o off len at)) now reply new) × (t.after ≡ s.after)
unfolding shared_unfetched
shared_fetched base reserve old new o off len now at (Ok plan) reply s (inl is) =
    let Comes : Reply → Type 0 = λ r. (t : SharedStep base reserve old (Query (Read o off len at)) now r new) × (t.after ≡ s.after) in
    subst Comes (sym is) (s, refl)
shared_fetched base reserve old new o off len now at (Ok plan) reply s (inr is) =
    let Comes : Reply → Type 0 = λ r. (t : SharedStep base reserve old (Query (Read o off len at)) now r new) × (t.after ≡ s.after) in
    subst Comes (sym is) (shared_unfetched base reserve old new o off len now at (bytes_planned plan) s, refl)
shared_fetched base reserve old new o off len now at (Err refusal) reply s is =
    let Comes : Reply → Type 0 = λ r. (t : SharedStep base reserve old (Query (Read o off len at)) now r new) × (t.after ≡ s.after) in
    subst Comes (sym is) (s, refl)

-- a session that was just had of a drive with this base
pub shared_seated : (base : Base) (role : Role) (d e : DriveFields) (had : Result SessionFields Refusal) → (history_of d).base ≡ base → e ≡ d → IfOk had (λ s. s.told.seen ≡ accepted d.ledger.history) → IfOk had (λ s. s.told.mine ≡ [])
    → IfOk had (λ s. s.role ≡ role) → IfOk had (λ s. IsSeated base role (record { session = s; requests = 0; clock = (state_in e).clock }))
shared_seated base role d e (Ok session) begins same seen mine role_is = record {
  fresh = record { ledger = d.ledger; begins = begins; seen = seen; mine = mine; role_is = role_is };
  clock = ap (λ (f : DriveFields). (state_in f).clock) same;
  requests = refl;
}
shared_seated base role d e (Err refusal) begins same seen mine role_is = tt

-- where it is asked nothing
pub seated_fresh : {P : Type 0} (base : Base) (role : Role) (session_of : P → SessionFields) (clock_of : P → ℕ) (had : Result P Refusal) → IfOk had (λ s. IsSeated base role (record { session = session_of s; requests = 0; clock = clock_of s }))
    → IfOk had (λ s. IsFresh base role (session_of s))
seated_fresh base role session_of clock_of (Ok s) is = is.fresh
seated_fresh base role session_of clock_of (Err refusal) is = tt

-- the same of a session that draws its moment with the drive's lock
pub answer_fetched : (base : Base) (reserve : ℕ) (moments : List ℕ → Type 0) (own : ℕ) (old new : SessionFields) (o off len : ℕ) (at : Option ℕ) (planned : Result PlanFields Refusal) (reply : Reply) (clock : ℕ)
    → SharedAnswer base reserve moments own old (Query (Read o off len at)) (reply_planned planned) new clock → IsFetched planned reply → SharedAnswer base reserve moments own old (Query (Read o off len at)) reply new clock
answer_fetched base reserve moments own old new o off len at planned reply clock a is =
    let both = shared_fetched base reserve old new o off len a.now at planned reply a.step is in
    record {
      before = a.before;
      now = a.now;
      drawn = a.drawn;
      late = a.late;
      step = both.0;
      came_to = a.came_to ∙ ap (λ (d : DriveFields). (state_in d).clock) (sym both.1);
    }

-- what a session has seen after a reply
pub seen_after : (reply : Reply) (l : Ledger) (old new : SessionFields) → new ≡ record old { told = told_after reply l old.told } → new.told.seen ≡ accepted l.history
seen_after reply l old new told = ap (λ (s : SessionFields). s.told.seen) told ∙ seen_by (is_acceptance reply) l old.told

memory_fits : ReplyFits (Refused NoMemory)
memory_fits is = omega (arith, is)

-- what is fetched of a plan fits a reply
pub fetched_fits : (planned : Result PlanFields Refusal) (reply : Reply) → ReplyFits (reply_planned planned) → IsFetched planned reply → ReplyFits reply
fetched_fits (Ok plan) reply fits (inl is) = subst ReplyFits (sym is) fits
fetched_fits (Ok plan) reply fits (inr is) = subst ReplyFits (sym is) memory_fits
fetched_fits (Err refusal) reply fits is = subst ReplyFits (sym is) fits
