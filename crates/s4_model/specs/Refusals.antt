-- When each refusal applies, and in which order they are looked at.
use Rattle.std.specs.Prelude.{ℕ, Bool, true, false, not, ◌==◌, ◌&&◌, ◌||◌, ◌+◌, ◌-◌, ◌^◌, nat_le, nat_lt, if◌then◌else◌, Option, None, Some, unwrap_or, List, [], ◌∷◌, ◌++◌, length}
use Rattle.std.specs.List.{find}
use Rattle.s4_types.specs.declared.spans.Span.{Span}
use Rattle.s4_types.specs.declared.limits.TheConstants.{OBJECT_BYTES, READ_BYTES, ATTRIBUTE_BYTES, AUDIT_ROWS, RUNS_IN_A_LIST, RUNS_IN_ALL}
use Rattle.s4_types.specs.declared.requests.Role.{Role}
use Rattle.s4_types.specs.declared.requests.Role.TheVariants.{Client, Admin}
use Rattle.s4_types.specs.declared.requests.Request.{Request}
use Rattle.s4_types.specs.declared.requests.Request.TheVariants.{Update, Query, Control}
use Rattle.s4_types.specs.declared.requests.Question.TheVariants.{Read, GetAttr, Audit}
use Rattle.s4_types.specs.declared.requests.ObjectRequest.TheVariants.{Create, Delete, Write, Append, Truncate, SetAttr}
use Rattle.s4_types.specs.declared.requests.AdminRequest.TheVariants.{Flush, FlushO}
use Rattle.s4_types.specs.declared.refusals.Refusal.{Refusal}
use Rattle.s4_types.specs.declared.refusals.Refusal.TheVariants.{NoObject, NotAdmin, Expired, Future, Flushed, TooLarge, BadSpan, TooManySpans, ClockEnd, BadAttr}
use Rattle.s4_types.specs.declared.versions.Version.{Version}
use Rattle.s4_types.specs.declared.versions.Version.TheVariants.{Absent, Live}
use Rattle.s4_model.specs.State.{State}
use Rattle.s4_model.specs.VersionAt.{version_of}
use Rattle.s4_model.specs.Visible.{is_hidden, spans_of}
use Rattle.s4_model.specs.Runs.{is_covered, run_count, run_count_of_all}

-- the greatest number of 64 bits
abbrev pub last_number : ℕ
last_number = 2 ^ 64 - 1

-- the size of a live version, in bytes
abbrev pub live_size_of : Version → Option ℕ
live_size_of Absent = None
live_size_of (Live content attribute created changed) = Some (length content)

-- an object's size; an absent object counts as empty
abbrev pub size_of : Version → ℕ
size_of version = unwrap_or (live_size_of version) 0

abbrev pub is_absent : Version → Bool
is_absent Absent = true
is_absent (Live content attribute created changed) = false

abbrev pub is_client : Role → Bool
is_client Client = true
is_client Admin = false

-- the version that an object has now
abbrev pub present : State → ℕ → Version
present s o = version_of s o s.clock

-- the moment that a read asks for: without one, the present clock
abbrev pub asked : State → Option ℕ → ℕ
asked s at = unwrap_or at s.clock

-- what administrators alone may ask
abbrev pub wants_admin : Request → Bool
wants_admin (Control control) = true
wants_admin (Query (Audit from most)) = true
wants_admin _ = false

abbrev pub has_long_attribute : Request → Bool
has_long_attribute (Update (Create attribute)) = nat_lt ATTRIBUTE_BYTES (length attribute)
has_long_attribute (Update (SetAttr object attribute)) = nat_lt ATTRIBUTE_BYTES (length attribute)
has_long_attribute _ = false

-- The end of a write, the size of a truncation, the length of a read or the number of rows of an audit is above the
-- limit, or a read ends above the greatest number.
abbrev pub is_too_large : State → Request → Bool
is_too_large s (Update (Write object offset bytes)) = nat_lt OBJECT_BYTES (offset + length bytes)
is_too_large s (Update (Append object bytes)) = nat_lt OBJECT_BYTES (size_of (present s object) + length bytes)
is_too_large s (Update (Truncate object size)) = nat_lt OBJECT_BYTES size
is_too_large s (Query (Read object offset len at)) = nat_lt READ_BYTES len || nat_lt last_number (offset + len)
is_too_large s (Query (Audit from most)) = nat_lt AUDIT_ROWS most
is_too_large s _ = false

-- a span that doesn't end at or after its first moment and at or before the clock
abbrev pub is_bad_span : State → Request → Bool
is_bad_span s (Control (Flush first last)) = not (nat_le first last && nat_le last s.clock)
is_bad_span s (Control (FlushO object first last)) = not (nat_le first last && nat_le last s.clock)
is_bad_span s _ = false

abbrev pub is_future : State → Request → Bool
is_future s (Query (Read object offset len at)) = nat_lt s.clock (asked s at)
is_future s (Query (GetAttr object at)) = nat_lt s.clock (asked s at)
is_future s _ = false

abbrev pub is_expired : State → Request → Bool
is_expired s (Query (Read object offset len at)) = nat_lt (asked s at) s.floor
is_expired s (Query (GetAttr object at)) = nat_lt (asked s at) s.floor
is_expired s _ = false

abbrev pub is_flushed : State → Request → Bool
is_flushed s (Query (Read object offset len at)) = is_hidden s object (asked s at)
is_flushed s (Query (GetAttr object at)) = is_hidden s object (asked s at)
is_flushed s _ = false

-- The first refusal of a moment of an object that is asked for: it is above the clock, below the floor, or hidden.
abbrev pub moment_refusal : State → ℕ → ℕ → Option Refusal
moment_refusal s o t = if nat_lt s.clock t then Some Future else (if nat_lt t s.floor then Some Expired else (if is_hidden s o t then Some Flushed else None))

-- The object isn't there, now or at the moment that is asked for. A span may be of each object that ever was.
abbrev pub is_of_no_object : State → Request → Bool
is_of_no_object s (Update (Delete object)) = is_absent (present s object)
is_of_no_object s (Update (Write object offset bytes)) = is_absent (present s object)
is_of_no_object s (Update (Append object bytes)) = is_absent (present s object)
is_of_no_object s (Update (Truncate object size)) = is_absent (present s object)
is_of_no_object s (Update (SetAttr object attribute)) = is_absent (present s object)
is_of_no_object s (Query (Read object offset len at)) = is_absent (version_of s object (asked s at))
is_of_no_object s (Query (GetAttr object at)) = is_absent (version_of s object (asked s at))
is_of_no_object s (Control (FlushO object first last)) = object == 0 || nat_le s.next object
is_of_no_object s _ = false

-- with one more span its list has more runs than a list may, or all lists together more than they may
unfoldable pub is_one_span_too_many : State → Span → Bool
is_one_span_too_many s span =
    let spans = spans_of s ++ span ∷ [] in
    nat_lt RUNS_IN_A_LIST (run_count (is_covered s.floor spans span.object) s.clock)
    || nat_lt RUNS_IN_ALL (run_count_of_all s.floor spans s.clock s.next)

abbrev pub has_too_many_spans : State → Request → Bool
has_too_many_spans s (Control (Flush first last)) = is_one_span_too_many s (record { object = 0; first = first; last = last })
has_too_many_spans s (Control (FlushO object first last)) = is_one_span_too_many s (record { object = object; first = first; last = last })
has_too_many_spans s _ = false

-- no later moment can be given, or no further object
abbrev pub is_at_clock_end : State → Request → Bool
is_at_clock_end s (Query question) = false
is_at_clock_end s (Update (Create attribute)) = (s.clock == last_number) || (s.next == last_number)
is_at_clock_end s _ = s.clock == last_number

-- whether a refusal applies to a request
abbrev pub applies : State → Role → Request → Refusal → Bool
applies s role request NotAdmin = wants_admin request && is_client role
applies s role request BadAttr = has_long_attribute request
applies s role request TooLarge = is_too_large s request
applies s role request BadSpan = is_bad_span s request
applies s role request Future = is_future s request
applies s role request Expired = is_expired s request
applies s role request Flushed = is_flushed s request
applies s role request NoObject = is_of_no_object s request
applies s role request TooManySpans = has_too_many_spans s request
applies s role request ClockEnd = is_at_clock_end s request
applies s role request _ = false

-- the order in which they are looked at
abbrev pub checks : List Refusal
checks = NotAdmin ∷ BadAttr ∷ TooLarge ∷ BadSpan ∷ Future ∷ Expired ∷ Flushed ∷ NoObject ∷ TooManySpans ∷ ClockEnd ∷ []

-- the first refusal that applies
abbrev pub first_refusal : State → Role → Request → Option Refusal
first_refusal s role request = find (applies s role request) checks
