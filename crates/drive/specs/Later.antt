-- What is left to refuse of a request once its role and its own numbers allow it.
use Rattle.std.specs.Prelude.{◌≡◌, ℕ, ◌+◌, ◌<◌, ◌≤◌, if◌then◌else◌, Option, Some, IsSome, List, [], ◌∷◌, length}
use Rattle.std.specs.List.{find}
use Rattle.s4_types.specs.declared.limits.TheConstants.{OBJECT_BYTES, READ_BYTES, ATTRIBUTE_BYTES, AUDIT_ROWS}
use Rattle.s4_types.specs.declared.requests.Role.TheVariants.{Admin}
use Rattle.s4_types.specs.declared.requests.Request.{Request}
use Rattle.s4_types.specs.declared.requests.Request.TheVariants.{Update, Query, Control}
use Rattle.s4_types.specs.declared.requests.Question.TheVariants.{Read, GetAttr, Audit}
use Rattle.s4_types.specs.declared.requests.ObjectRequest.{ObjectRequest}
use Rattle.s4_types.specs.declared.requests.ObjectRequest.TheVariants.{Create, Delete, Write, Append, Truncate, SetAttr}
use Rattle.s4_types.specs.declared.requests.AdminRequest.TheVariants.{SetWindow, Flush, FlushO}
use Rattle.s4_types.specs.declared.changes.Change.{Change}
use Rattle.s4_types.specs.declared.changes.Change.TheVariants as change
use Rattle.s4_types.specs.declared.refusals.Refusal.{Refusal}
use Rattle.s4_types.specs.declared.refusals.Refusal.TheVariants.{NoObject, Expired, Future, Flushed, TooLarge, BadSpan, TooManySpans, ClockEnd}
use Rattle.s4_model.specs.State.{State}
use Rattle.s4_model.specs.Refusals.{applies, is_too_large, present, live_size_of, last_number}

-- the checks that look at a state, but for an Append's size
abbrev pub later_checks : List Refusal
later_checks = BadSpan ∷ Future ∷ Expired ∷ Flushed ∷ NoObject ∷ TooManySpans ∷ ClockEnd ∷ []

-- The first refusal of a request whose role and own numbers allow it: an Append's size, which rests on the state, and then
-- the later checks.
abbrev pub later_refusal : State → Request → Option Refusal
later_refusal s (Update (Append object bytes)) = if is_too_large s (Update (Append object bytes)) then Some TooLarge else find (applies s Admin (Update (Append object bytes))) later_checks
later_refusal s request = find (applies s Admin request) later_checks

-- a request's own numbers are within the limits
abbrev pub IsWithin : Request → Type 0
IsWithin (Update (Create attribute)) = length attribute ≤ ATTRIBUTE_BYTES
IsWithin (Update (SetAttr object attribute)) = length attribute ≤ ATTRIBUTE_BYTES
IsWithin (Update (Write object offset bytes)) = offset + length bytes ≤ OBJECT_BYTES
IsWithin (Update (Truncate object size)) = size ≤ OBJECT_BYTES
IsWithin (Query (Read object offset len at)) = (len ≤ READ_BYTES) × (offset + len ≤ last_number)
IsWithin (Query (Audit from most)) = most ≤ AUDIT_ROWS
IsWithin _ = Unit {0}

-- the object that a request is of: a Create's is the next one, and 0 is that of SetWindow, Flush and Audit
abbrev pub object_asked : ℕ → Request → ℕ
object_asked next (Update (Create attribute)) = next
object_asked next (Update (Delete object)) = object
object_asked next (Query (Read object offset len at)) = object
object_asked next (Update (Write object offset bytes)) = object
object_asked next (Update (Append object bytes)) = object
object_asked next (Update (Truncate object size)) = object
object_asked next (Query (GetAttr object at)) = object
object_asked next (Query (Audit from most)) = 0
object_asked next (Update (SetAttr object attribute)) = object
object_asked next (Control (SetWindow window)) = 0
object_asked next (Control (Flush first last)) = 0
object_asked next (Control (FlushO object first last)) = object

-- this is the present size of the object that a change is of, none where it is absent; a Create's isn't looked at
abbrev pub HasSize : State → ObjectRequest → Option ℕ → Type 0
HasSize s (Create attribute) size = Unit {0}
HasSize s update size = live_size_of (present s (object_asked 0 (Update update))) ≡ size

-- A change that the numbers allow: it makes a version; a Create's object is the next one and a further number is left; each
-- other's object has a size.
abbrev pub IsAllowed : ℕ → Option ℕ → Change → Type 0
IsAllowed next size (change.Create object attribute) = (object ≡ next) × (next < last_number)
IsAllowed next size (change.Delete object) = IsSome size
IsAllowed next size (change.Write object offset bytes) = IsSome size
IsAllowed next size (change.Truncate object n) = IsSome size
IsAllowed next size (change.SetAttr object attribute) = IsSome size
IsAllowed next size (change.SetWindow window) = ⊥
IsAllowed next size (change.Flush first last) = ⊥
IsAllowed next size (change.FlushO object first last) = ⊥
