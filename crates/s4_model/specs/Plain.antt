-- What the plain drive's parts promise one another, over states.
use Rattle.std.specs.Prelude.{◌≡◌, ◌⊎◌, ℕ, ◌==◌, ◌<◌, ◌≤◌, if◌then◌else◌, Option, None, Some, Result, MatchResult}
use Rattle.s4_types.specs.Sizes.{ReplyFits}
use Rattle.s4_types.specs.declared.changes.Accepted.{Accepted}
use Rattle.s4_types.specs.declared.changes.Change.{Change}
use Rattle.s4_types.specs.declared.changes.Change.TheVariants.{Create, Flush, FlushO}
use Rattle.s4_types.specs.declared.requests.Role.{Role}
use Rattle.s4_types.specs.declared.requests.Request.{Request}
use Rattle.s4_types.specs.declared.requests.Request.TheVariants.{Query}
use Rattle.s4_types.specs.declared.refusals.Refusal.{Refusal}
use Rattle.s4_types.specs.declared.refusals.Refusal.TheVariants.{NoObject, NoSpace, NoMemory, ClockEnd, ChainFull, Busy, BadFrame, Damaged, Stale, NoRoom, InUse}
use Rattle.s4_types.specs.declared.replies.Reply.{Reply}
use Rattle.s4_types.specs.declared.replies.Reply.TheVariants.{Refused}
use Rattle.s4_model.specs.State.{State, seen, took}
use Rattle.s4_model.specs.Refusals.{first_refusal, is_absent, present, last_number}
use Rattle.s4_model.specs.Step.{change_of, reply_to_change, reply_to_read, accepted_record, MayWantMemory}
use Rattle.s4_model.specs.Limits.{Fits}

-- a request that isn't a read
abbrev pub IsChange : Request → Type 0
IsChange (Query question) = ⊥
IsChange _ = Unit {0}

-- a span ends at or before the clock
abbrev pub EndsBy : ℕ → Change → Type 0
EndsBy clock (Flush first last) = last ≤ clock
EndsBy clock (FlushO object first last) = last ≤ clock
EndsBy clock _ = Unit {0}

-- an accepted change of a drive that began new
pub record IsKeptChange (clock : ℕ) (a : Accepted) : Type 0 where
  pub dated : 0 < a.moment
  pub fits : Fits a.change
  pub ends : EndsBy clock a.change

-- a further object can be numbered
abbrev pub HasNext : ℕ → Change → Type 0
HasNext next (Create object attribute) = (next < last_number) × (object ≡ next)
HasNext next _ = Unit {0}

-- a change that can be stamped and kept
pub record IsTakeable (s : State) (change : Change) : Type 0 where
  pub fits : Fits change
  pub ends : EndsBy s.clock change
  pub clock : s.clock < last_number
  pub next : HasNext s.next change

-- a refusal that the plain drive may answer: the first that applies, or lack of memory in its place
abbrev pub RefusesPlainly : Option Refusal → Request → Refusal → Type 0
RefusesPlainly first request given = (first ≡ Some given) ⊎ ((given ≡ NoMemory) × MayWantMemory first request)

-- what judging a change answers: the change where nothing is refused, else a refusal that may be answered
abbrev pub Judges : State → Role → Request → Result Change Refusal → Type 0
Judges s role request judged =
    MatchResult judged
    (λ change. (first_refusal s role request ≡ None) × (change_of s request ≡ Some change) × IsTakeable s change)
    (λ refusal. RefusesPlainly (first_refusal s role request) request refusal)

-- what is left to refuse of a change of an object: that it is absent, or the clock's end
abbrev pub live_refusal : State → ℕ → Option Refusal
live_refusal s o = if is_absent (present s o) then Some NoObject else (if s.clock == last_number then Some ClockEnd else None)

-- no refusal for lack of room or of a seat, and none that isn't a request's
abbrev pub IsPlainRefusal : Refusal → Type 0
IsPlainRefusal NoSpace = ⊥
IsPlainRefusal ChainFull = ⊥
IsPlainRefusal Busy = ⊥
IsPlainRefusal BadFrame = ⊥
IsPlainRefusal (Damaged cause) = ⊥
IsPlainRefusal Stale = ⊥
IsPlainRefusal NoRoom = ⊥
IsPlainRefusal InUse = ⊥
IsPlainRefusal _ = Unit {0}

abbrev pub IsPlainReply : Reply → Type 0
IsPlainReply (Refused refusal) = IsPlainRefusal refusal
IsPlainReply _ = Unit {0}

-- an error that is lack of memory, or this refusal
abbrev pub IsRefusedBy : Option Refusal → Refusal → Type 0
IsRefusedBy first refusal = (refusal ≡ NoMemory) ⊎ (first ≡ Some refusal)

-- a reply of the plain drive
abbrev pub IsPlain : Reply → Type 0
IsPlain reply = ReplyFits reply × IsPlainReply reply

-- what settling a judged change answers, and leaves
abbrev pub Settles : State → Result Change Refusal → ℕ → Reply → State → Type 0
Settles s judged now reply after =
    MatchResult judged
    (λ change. ((reply ≡ Refused NoMemory) × (after ≡ seen s now)) ⊎ ((reply ≡ reply_to_change s change now) × (after ≡ took s (accepted_record s change now))))
    (λ refusal. (reply ≡ Refused refusal) × (after ≡ seen s now))

-- what answering a read gives
abbrev pub Answers : State → Role → Request → Result Reply Refusal → Type 0
Answers s role request answered =
    MatchResult answered
    (λ reply. (first_refusal s role request ≡ None) × (reply_to_read s request ≡ Some reply))
    (λ refusal. RefusesPlainly (first_refusal s role request) request refusal)

-- what a request is judged by: a read by the state that has seen the moment
abbrev pub judged_by : State → Request → ℕ → State
judged_by s (Query question) now = seen s now
judged_by s _ now = s

-- what a request is answered, and the state after it
pub data Responds (s : State) (role : Role) (request : Request) (now : ℕ) (reply : Reply) (after : State) : Type 0 where
  Refusing : (refusal : Refusal) → reply ≡ Refused refusal → RefusesPlainly (first_refusal (judged_by s request now) role request) request refusal → after ≡ seen s now → Responds s role request now reply after
  Taking : (change : Change) → first_refusal (judged_by s request now) role request ≡ None → change_of s request ≡ Some change → reply ≡ reply_to_change s change now → after ≡ took s (accepted_record s change now) → Responds s role request now reply after
  Telling : first_refusal (judged_by s request now) role request ≡ None → reply_to_read (judged_by s request now) request ≡ Some reply → IsPlain reply → after ≡ seen s now → Responds s role request now reply after
