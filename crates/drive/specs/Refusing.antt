-- Why a request is refused, if it is.
use Rattle.std.specs.Prelude.{◌≡◌, ◌⊎◌, ◌==◌, ◌-◌, ℕ, min, true, if◌then◌else◌, Option, None, Some, option_and_then}
use Rattle.std.specs.List.{list_any}
use Rattle.codec.specs.declared.inodes.Inode.{Inode}
use Rattle.s4_types.specs.declared.changes.Change.{Change}
use Rattle.s4_types.specs.declared.spans.Span.{Span}
use Rattle.s4_types.specs.declared.requests.Role.{Role}
use Rattle.s4_types.specs.declared.requests.Request.{Request}
use Rattle.s4_types.specs.declared.requests.Request.TheVariants.{Update, Query, Control}
use Rattle.s4_types.specs.declared.requests.Question.TheVariants.{Read}
use Rattle.s4_types.specs.declared.requests.AdminRequest.TheVariants.{SetWindow, Flush, FlushO}
use Rattle.s4_types.specs.declared.refusals.Refusal.{Refusal}
use Rattle.s4_types.specs.declared.refusals.Refusal.TheVariants.{NoMemory, NoSpace, ChainFull, Busy, TooManySpans, ClockEnd}
use Rattle.s4_types.specs.declared.replies.Reply.{Reply}
use Rattle.s4_types.specs.declared.replies.Reply.TheVariants.{Refused}
use Rattle.s4_model.specs.State.{State}
use Rattle.s4_model.specs.Refusals.{first_refusal, asked, is_one_span_too_many, last_number}
use Rattle.s4_model.specs.Step.{change_of, stamp, judged}
use Rattle.s4_model.specs.Effect.{is_of_versions}
use Rattle.version_store.specs.Store.{StoreFields}
use Rattle.version_store.specs.Costs.{change_refusal, short_of}
use Rattle.version_store.specs.Versions.{inode_in}
use Rattle.time_read.specs.Plans.{pieces_of, is_pinned}
use Rattle.drive.specs.Fields.{DriveFields, history_of, store_of, state_in}

-- the first of two refusals
abbrev pub or_then : Option Refusal → Option Refusal → Option Refusal
or_then (Some first) second = Some first
or_then None second = second

-- Why a change can't be stored at a moment, if it can't: its object's chain would be full, or else there is too little room.
-- One that makes no version takes no blocks.
abbrev pub storing_refusal : StoreFields → ℕ → Change → Option Refusal
storing_refusal store m change = if is_of_versions change then change_refusal store change m else None

-- the same of the change that a request asks for
abbrev pub want_of : StoreFields → State → Request → ℕ → Option Refusal
want_of store s request now = option_and_then (storing_refusal store (stamp s now)) (change_of s request)

-- Why a request is refused, if it is: the first check that applies to it, or else what its change lacks.
abbrev pub refusal_of : StoreFields → State → Role → Request → ℕ → Option Refusal
refusal_of store s role request now = or_then (first_refusal s role request) (want_of store s request now)

-- what a request for a span is refused for once its memory was had: too many runs, or the clock's end
abbrev pub IsFoundLater : Option Refusal → Type 0
IsFoundLater None = Unit {0}
IsFoundLater (Some TooManySpans) = Unit {0}
IsFoundLater (Some ClockEnd) = Unit {0}
IsFoundLater (Some _) = ⊥

-- what a change of an object is refused for once its memory was had: what its blocks lack
abbrev pub IsOfBlocks : Option Refusal → Type 0
IsOfBlocks None = Unit {0}
IsOfBlocks (Some ChainFull) = Unit {0}
IsOfBlocks (Some NoSpace) = Unit {0}
IsOfBlocks (Some _) = ⊥

-- Where lack of memory may be answered, by what refuses a request otherwise, if anything does. A question takes memory only
-- where nothing else refuses it, and so does one that sets the window. A change of an object takes some, for its row of the
-- audit, before its blocks are counted; one that hides moments before its runs are counted and the clock is looked at.
abbrev pub MayLackMemory : Option Refusal → Request → Type 0
MayLackMemory why (Update update) = IsOfBlocks why
MayLackMemory why (Query question) = why ≡ None
MayLackMemory why (Control (SetWindow window)) = why ≡ None
MayLackMemory why (Control (Flush first last)) = IsFoundLater why
MayLackMemory why (Control (FlushO object first last)) = IsFoundLater why

-- The bytes that a read asks for, of an object that is there at the moment asked for, need a block of a frame that isn't open.
pub record NeedsPin (d : DriveFields) (object offset len : ℕ) (at : Option ℕ) : Type 0 where
  pub inode : Inode
  pub there : inode_in (store_of d) object (asked (state_in d) at) ≡ Some inode
  pub sealed : list_any is_pinned (pieces_of d.store.table inode offset (min len (inode.size - offset))) ≡ true

-- a request that needs a pin: such a read
abbrev pub WantsPin : DriveFields → Request → Type 0
WantsPin d (Query (Read object offset len at)) = NeedsPin d object offset len at
WantsPin d _ = ⊥

-- The reply is a refusal where there is one, and that one; or lack of memory, where that may be answered; or lack of a pin
-- where nothing else refuses, of a request that needs one over the drive as it is then.
abbrev pub RefusesBy : Option Refusal → DriveFields → Request → Reply → Type 0
RefusesBy why d request (Refused refusal) = ((refusal ≡ NoMemory) × MayLackMemory why request) ⊎ ((why ≡ Some refusal) ⊎ ((refusal ≡ Busy) × (why ≡ None) × WantsPin d request))
RefusesBy why d request _ = why ≡ None

-- The reply to a request at a moment is a refusal exactly where the drive, as it was before, has one: that one, but for want
-- of memory and of a pin, as told above. A pin is wanted over the drive as it is afterwards.
abbrev pub RefusesExactly : DriveFields → Role → Request → ℕ → Reply → DriveFields → Type 0
RefusesExactly d role request now reply later = RefusesBy (refusal_of (store_of d) (judged (history_of d) request now) role request now) later request reply

-- The same of a drive that keeps this many blocks back: NoSpace is judged by its room less these, down to none, and nothing
-- else is judged by its room.
abbrev pub RefusesLeaving : ℕ → DriveFields → Role → Request → ℕ → Reply → DriveFields → Type 0
RefusesLeaving least d role request now reply later = RefusesBy (refusal_of (short_of least (store_of d)) (judged (history_of d) request now) role request now) later request reply

-- Where the reply to a request at a moment is lack of memory, the checks over the drive, as it was before, leave it room.
abbrev pub LacksMemoryInPlace : DriveFields → Role → Request → ℕ → Reply → Type 0
LacksMemoryInPlace d role request now reply = reply ≡ Refused NoMemory → MayLackMemory (first_refusal (judged (history_of d) request now) role request) request

-- a refusal of a read by the checks, or for lack of memory
abbrev pub IsJudgedOut : Option Refusal → Request → Refusal → Type 0
IsJudgedOut first request refusal = ((refusal ≡ NoMemory) × MayLackMemory first request) ⊎ (first ≡ Some refusal)

-- a read wasn't planned: by the checks, for lack of memory, or for lack of a pin where they let it pass
abbrev pub IsUnplanned : Option Refusal → DriveFields → Request → Refusal → Type 0
IsUnplanned first d request refusal = IsJudgedOut first request refusal ⊎ ((refusal ≡ Busy) × (first ≡ None) × WantsPin d request)

-- a refusal by the checks, where they refuse so, or by what the change that is asked for lacks; or for lack of memory
abbrev pub IsRefusal : Option Refusal → StoreFields → State → Request → ℕ → Refusal → Type 0
IsRefusal first store s request now refusal =
    ((refusal ≡ NoMemory) × MayLackMemory (or_then first (want_of store s request now)) request) ⊎ (or_then first (want_of store s request now) ≡ Some refusal)

-- what is left to refuse of a span that is in order, past, and of a number that was given
abbrev pub span_refusal : State → Span → Option Refusal
span_refusal s span = if is_one_span_too_many s span then Some TooManySpans else (if s.clock == last_number then Some ClockEnd else None)
