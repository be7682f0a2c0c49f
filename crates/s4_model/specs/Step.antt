-- What a request may be answered, and the history after it.
use Rattle.std.specs.Prelude.{◌≡◌, ℕ, ◌+◌, max, Option, None, Some, List, length, take, drop}
use Rattle.s4_types.specs.History.{History, Record, Took, Seen}
use Rattle.s4_types.specs.declared.changes.Accepted.{Accepted}
use Rattle.s4_types.specs.declared.changes.Change.{Change}
use Rattle.s4_types.specs.declared.changes.Change.TheVariants as change
use Rattle.s4_types.specs.declared.requests.Role.{Role}
use Rattle.s4_types.specs.declared.requests.Request.{Request}
use Rattle.s4_types.specs.declared.requests.Request.TheVariants.{Update, Query, Control}
use Rattle.s4_types.specs.declared.requests.Question.TheVariants.{Read, GetAttr, Audit}
use Rattle.s4_types.specs.declared.requests.ObjectRequest.TheVariants.{Create, Delete, Write, Append, Truncate, SetAttr}
use Rattle.s4_types.specs.declared.requests.AdminRequest.TheVariants.{SetWindow, Flush, FlushO}
use Rattle.s4_types.specs.declared.replies.Reply.{Reply}
use Rattle.s4_types.specs.declared.replies.Reply.TheVariants.{Refused, Changed, Created, Data, Attr, AuditRows}
use Rattle.s4_types.specs.declared.refusals.Refusal.{Refusal}
use Rattle.s4_types.specs.declared.refusals.Refusal.TheVariants.{NoObject, TooLarge, TooManySpans, NoSpace, NoMemory, ClockEnd, ChainFull, Busy}
use Rattle.s4_types.specs.declared.versions.Version.{Version}
use Rattle.s4_types.specs.declared.versions.Version.TheVariants.{Absent, Live}
use Rattle.s4_model.specs.State.{State, state_of, grown}
use Rattle.s4_model.specs.VersionAt.{version_of}
use Rattle.s4_model.specs.Audit.{rows_asked}
use Rattle.s4_model.specs.Refusals.{first_refusal, present, asked, size_of}

-- The change that a request asks for. A Create makes the next object, an Append is a write at the present
-- size, and reads change nothing.
abbrev pub change_of : State → Request → Option Change
change_of s (Update (Create attribute)) = Some (change.Create s.next attribute)
change_of s (Update (Delete object)) = Some (change.Delete object)
change_of s (Update (Write object offset bytes)) = Some (change.Write object offset bytes)
change_of s (Update (Append object bytes)) = Some (change.Write object (size_of (present s object)) bytes)
change_of s (Update (Truncate object size)) = Some (change.Truncate object size)
change_of s (Update (SetAttr object attribute)) = Some (change.SetAttr object attribute)
change_of s (Control (SetWindow window)) = Some (change.SetWindow window)
change_of s (Control (Flush first last)) = Some (change.Flush first last)
change_of s (Control (FlushO object first last)) = Some (change.FlushO object first last)
change_of s (Query question) = None

-- What a request is judged by: a change by the history as it was, a question by one that has seen the moment.
abbrev pub judged : History → Request → ℕ → State
judged h (Query question) now = state_of (grown h (Seen now))
judged h _ now = state_of h

-- the moment of an accepted change
abbrev pub stamp : State → ℕ → ℕ
stamp s now = max now (s.clock + 1)

abbrev pub accepted_record : State → Change → ℕ → Accepted
accepted_record s change now = record { number = length s.changes + 1; moment = stamp s now; change = change }

-- the reply to an accepted change, at its moment
abbrev pub reply_at : Change → ℕ → Reply
reply_at (change.Create object attribute) moment = Created object moment
reply_at _ moment = Changed moment

abbrev pub reply_to_change : State → Change → ℕ → Reply
reply_to_change s change now = reply_at change (stamp s now)

-- the bytes from an offset on, at most this many
abbrev pub part : List ℕ → ℕ → ℕ → List ℕ
part content offset len = take len (drop offset content)

-- the reply to a read of a version; none is given of an absent one
abbrev pub data_of : Version → ℕ → ℕ → Option Reply
data_of Absent offset len = None
data_of (Live content attribute created changed) offset len = Some (Data (part content offset len))

-- the reply that tells an object's attributes
abbrev pub attributes_of : Version → Option Reply
attributes_of Absent = None
attributes_of (Live content attribute created changed) = Some (Attr (length content) created changed attribute)

-- the reply to an accepted read, by the state that has seen the moment
abbrev pub reply_to_read : State → Request → Option Reply
reply_to_read s (Query (Read object offset len at)) = data_of (version_of s object (asked s at)) offset len
reply_to_read s (Query (GetAttr object at)) = attributes_of (version_of s object (asked s at))
reply_to_read s (Query (Audit from most)) = Some (AuditRows (rows_asked s from most))
reply_to_read s _ = None

-- where lack of memory may be answered in place of what applies first
abbrev pub MayWantMemory : Option Refusal → Request → Type 0
MayWantMemory None request = Unit {0}
MayWantMemory (Some NoObject) request = Unit {0}
MayWantMemory (Some TooManySpans) request = Unit {0}
MayWantMemory (Some ClockEnd) request = Unit {0}
MayWantMemory (Some TooLarge) (Update (Append object bytes)) = Unit {0}
MayWantMemory (Some _) request = ⊥

-- what may be answered where no other refusal applies
abbrev pub IsLeftOpen : Refusal → Type 0
IsLeftOpen ChainFull = Unit {0}
IsLeftOpen NoSpace = Unit {0}
IsLeftOpen Busy = Unit {0}
IsLeftOpen _ = ⊥

-- The refusals that may be answered: the first that applies; lack of memory where that may be in its
-- place; what is left open, where none applies.
pub data MayRefuse (first : Option Refusal) (request : Request) (given : Refusal) : Type 0 where
  AsFirst : first ≡ Some given → MayRefuse first request given
  ForMemory : given ≡ NoMemory → MayWantMemory first request → MayRefuse first request given
  AsOpen : first ≡ None → IsLeftOpen given → MayRefuse first request given

-- What is answered where nothing is refused, and the record that the history gains: a change is stamped and
-- taken, a read answers from the history that has seen the moment.
pub data Accepts (h : History) (request : Request) (now : ℕ) (reply : Reply) (r : Record) : Type 0 where
  Alters : (change : Change) → change_of (state_of h) request ≡ Some change → reply ≡ reply_to_change (state_of h) change now → r ≡ Took (accepted_record (state_of h) change now) → Accepts h request now reply r
  Reads : reply_to_read (judged h request now) request ≡ Some reply → r ≡ Seen now → Accepts h request now reply r

-- The step: a refusal that may be answered, and the moment is seen; or no refusal applies, and the request
-- is accepted.
pub data Step (h : History) (role : Role) (request : Request) (now : ℕ) (reply : Reply) (after : History) : Type 0 where
  Refuses : (refusal : Refusal) → reply ≡ Refused refusal → MayRefuse (first_refusal (judged h request now) role request) request refusal → after ≡ grown h (Seen now) → Step h role request now reply after
  Serves : (r : Record) → first_refusal (judged h request now) role request ≡ None → Accepts h request now reply r → after ≡ grown h r → Step h role request now reply after
