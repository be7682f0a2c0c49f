-- Reading a body from left to right: what a reader answers, and None where the bytes encode nothing.
use Rattle.std.specs.Prelude.{◌≡◌, ℕ, zero, suc, ◌-◌, List, [], ◌∷◌, ◌++◌, length, take, drop, Option, Some, None, Result, Ok, Err, nat_lt, ◌==◌, if◌then◌else◌}
use Rattle.std.specs.Int.{Width, w16, w32, w64, byte_len, from_be_bytes}
use Rattle.s4_types.specs.RefusalNumber.{number_of}
use Rattle.s4_types.specs.declared.limits.TheConstants.{FRAME_BODY_BYTES, READ_BYTES, ATTRIBUTE_BYTES, AUDIT_ROWS}
use Rattle.s4_types.specs.declared.refusals.Refusal.{Refusal}
use Rattle.s4_types.specs.declared.refusals.Refusal.TheVariants.{NoObject, NotAdmin, Expired, Future, Flushed, TooLarge, BadSpan, TooManySpans, NoSpace, NoMemory, ClockEnd, ChainFull, BadAttr, Busy, BadFrame, Stale, NoRoom, InUse}
use Rattle.s4_types.specs.declared.audit_rows.AuditKind.{AuditKind}
use Rattle.s4_types.specs.declared.audit_rows.AuditKind.TheVariants as kind
use Rattle.s4_types.specs.declared.audit_rows.AuditRow.{AuditRow}
use Rattle.s4_types.specs.declared.requests.Request.{Request}
use Rattle.s4_types.specs.declared.requests.Request.TheVariants.{Update, Query, Control}
use Rattle.s4_types.specs.declared.requests.Question.TheVariants.{Read, GetAttr, Audit}
use Rattle.s4_types.specs.declared.requests.ObjectRequest.TheVariants.{Create, Delete, Write, Append, Truncate, SetAttr}
use Rattle.s4_types.specs.declared.requests.AdminRequest.TheVariants.{SetWindow, Flush, FlushO}
use Rattle.s4_types.specs.declared.replies.Reply.{Reply}
use Rattle.s4_types.specs.declared.replies.Reply.TheVariants.{Refused, Changed, Created, Data, Attr, AuditRows}
use Rattle.rpc.specs.declared.unread.Unread.{Unread}
use Rattle.rpc.specs.declared.unread.Unread.TheVariants.{Memory, Misspelled}

infixl 10 ◌>>=◌
abbrev pub ◌>>=◌ : {A B : Type 0} → Option A → (A → Option B) → Option B
(Some x) >>= f = f x
None >>= f = None

-- what a function returned, seen by view, is what reading gives, unless memory ran out
abbrev pub Fails : {Y : Type 0} → Unread → Option Y → Type 0
Fails Memory read = Unit {0}
Fails Misspelled read = read ≡ None

abbrev pub Gives : {X Y : Type 0} → (X → Y) → Result X Unread → Option Y → Type 0
Gives view (Ok x) read = read ≡ Some (view x)
Gives view (Err e) read = Fails e read

-- a number, and the bytes after it
abbrev pub wire_number_at : Width → List ℕ → Option (ℕ × List ℕ)
wire_number_at w bytes = if nat_lt (length bytes) (byte_len w) then None else Some (from_be_bytes w (take (byte_len w) bytes), drop (byte_len w) bytes)

-- a text of at most this many bytes after its length, and the bytes after it
unfoldable pub wire_text_at : ℕ → List ℕ → Option (List ℕ × List ℕ)
wire_text_at limit [] = None
wire_text_at limit (len ∷ bytes) = if nat_lt limit len then None else (if nat_lt (length bytes) len then None else Some (take len bytes, drop len bytes))

-- a moment or none, and the bytes after it
unfoldable pub wire_moment_at : List ℕ → Option (Option ℕ × List ℕ)
wire_moment_at [] = None
wire_moment_at (zero ∷ rest) = Some (None, rest)
wire_moment_at (suc zero ∷ rest) = do
  n ← wire_number_at w64 rest
  Some (Some n.0, n.1)
wire_moment_at (suc (suc b) ∷ rest) = None

-- all of the bytes, at most this many
unfoldable pub tail_at : ℕ → List ℕ → Option (List ℕ)
tail_at limit bytes = if nat_lt limit (length bytes) then None else Some bytes

-- no bytes are left
unfoldable pub ended_at : List ℕ → Option (Unit {0})
ended_at [] = Some tt
ended_at (_ ∷ _) = None

-- a request of each kind, after its first byte
unfoldable pub create_at : List ℕ → Option Request
create_at bytes = do
  attribute ← wire_text_at 255 bytes
  end ← ended_at attribute.1
  Some (Update (Create attribute.0))

unfoldable pub delete_at : List ℕ → Option Request
delete_at bytes = do
  object ← wire_number_at w64 bytes
  end ← ended_at object.1
  Some (Update (Delete object.0))

-- what comes after the offset of a read
abbrev pub behind_offset : ℕ → ℕ → List ℕ → Option Request
behind_offset object offset bytes = do
  len ← wire_number_at w32 bytes
  moment ← wire_moment_at len.1
  end ← ended_at moment.1
  Some (Query (Read object offset len.0 moment.0))

unfoldable pub read_at : List ℕ → Option Request
read_at bytes = do
  object ← wire_number_at w64 bytes
  offset ← wire_number_at w64 object.1
  behind_offset object.0 offset.0 offset.1

unfoldable pub write_at : List ℕ → Option Request
write_at bytes = do
  object ← wire_number_at w64 bytes
  offset ← wire_number_at w64 object.1
  written ← tail_at (FRAME_BODY_BYTES - 17) offset.1
  Some (Update (Write object.0 offset.0 written))

unfoldable pub append_at : List ℕ → Option Request
append_at bytes = do
  object ← wire_number_at w64 bytes
  written ← tail_at (FRAME_BODY_BYTES - 9) object.1
  Some (Update (Append object.0 written))

unfoldable pub truncate_at : List ℕ → Option Request
truncate_at bytes = do
  object ← wire_number_at w64 bytes
  size ← wire_number_at w64 object.1
  end ← ended_at size.1
  Some (Update (Truncate object.0 size.0))

unfoldable pub get_attr_at : List ℕ → Option Request
get_attr_at bytes = do
  object ← wire_number_at w64 bytes
  moment ← wire_moment_at object.1
  end ← ended_at moment.1
  Some (Query (GetAttr object.0 moment.0))

unfoldable pub set_attr_at : List ℕ → Option Request
set_attr_at bytes = do
  object ← wire_number_at w64 bytes
  attribute ← wire_text_at 255 object.1
  end ← ended_at attribute.1
  Some (Update (SetAttr object.0 attribute.0))

unfoldable pub set_window_at : List ℕ → Option Request
set_window_at bytes = do
  window ← wire_number_at w64 bytes
  end ← ended_at window.1
  Some (Control (SetWindow window.0))

unfoldable pub flush_at : List ℕ → Option Request
flush_at bytes = do
  first ← wire_number_at w64 bytes
  last ← wire_number_at w64 first.1
  end ← ended_at last.1
  Some (Control (Flush first.0 last.0))

unfoldable pub flush_object_at : List ℕ → Option Request
flush_object_at bytes = do
  object ← wire_number_at w64 bytes
  first ← wire_number_at w64 object.1
  last ← wire_number_at w64 first.1
  end ← ended_at last.1
  Some (Control (FlushO object.0 first.0 last.0))

unfoldable pub audit_at : List ℕ → Option Request
audit_at bytes = do
  from ← wire_number_at w64 bytes
  most ← wire_number_at w16 from.1
  end ← ended_at most.1
  Some (Query (Audit from.0 most.0))

-- a request, by its first byte
unfoldable pub request_at : List ℕ → Option Request
request_at [] = None
request_at (kind ∷ rest) =
    if kind == 1 then create_at rest else
    (if kind == 2 then delete_at rest else
    (if kind == 3 then read_at rest else
    (if kind == 4 then write_at rest else
    (if kind == 5 then append_at rest else
    (if kind == 6 then truncate_at rest else
    (if kind == 7 then get_attr_at rest else
    (if kind == 8 then set_attr_at rest else
    (if kind == 9 then set_window_at rest else
    (if kind == 10 then flush_at rest else
    (if kind == 11 then flush_object_at rest else
    (if kind == 12 then audit_at rest else None)))))))))))

-- the refusals that a number names
abbrev pub refusals : List Refusal
refusals = NoObject ∷ NotAdmin ∷ Expired ∷ Future ∷ Flushed ∷ TooLarge ∷ BadSpan ∷ TooManySpans ∷ NoSpace ∷ NoMemory ∷ ClockEnd ∷ ChainFull ∷ BadAttr ∷ Busy ∷ BadFrame ∷ Stale ∷ NoRoom ∷ InUse ∷ []

-- the first of them that has the number
abbrev pub first_with : ℕ → List Refusal → Option Refusal
first_with number [] = None
first_with number (refusal ∷ others) = if number_of refusal == number then Some refusal else first_with number others

-- the refusal that the number alone names
unfoldable pub refusal_of_code : ℕ → Option Refusal
refusal_of_code number = if number == 16 then None else first_with number refusals

-- a reply of each kind, after its first byte
unfoldable pub refused_at : List ℕ → Option Reply
refused_at [] = None
refused_at (number ∷ rest) = do
  end ← ended_at rest
  refusal ← refusal_of_code number
  Some (Refused refusal)

unfoldable pub changed_at : List ℕ → Option Reply
changed_at bytes = do
  moment ← wire_number_at w64 bytes
  end ← ended_at moment.1
  Some (Changed moment.0)

unfoldable pub created_at : List ℕ → Option Reply
created_at bytes = do
  object ← wire_number_at w64 bytes
  moment ← wire_number_at w64 object.1
  end ← ended_at moment.1
  Some (Created object.0 moment.0)

unfoldable pub data_at : List ℕ → Option Reply
data_at bytes = do
  found ← tail_at READ_BYTES bytes
  Some (Data found)

-- what comes after the moments of a reply with attributes
abbrev pub behind_changed : ℕ → ℕ → ℕ → List ℕ → Option Reply
behind_changed size created changed bytes = do
  attribute ← wire_text_at ATTRIBUTE_BYTES bytes
  end ← ended_at attribute.1
  Some (Attr size created changed attribute.0)

unfoldable pub attr_at : List ℕ → Option Reply
attr_at bytes = do
  size ← wire_number_at w32 bytes
  created ← wire_number_at w64 size.1
  changed ← wire_number_at w64 created.1
  behind_changed size.0 created.0 changed.0 changed.1

-- the kind of change that has the number
unfoldable pub kind_of_code : ℕ → Option AuditKind
kind_of_code code =
    if code == 1 then Some kind.Create else
    (if code == 2 then Some kind.Delete else
    (if code == 4 then Some kind.Write else
    (if code == 6 then Some kind.Truncate else
    (if code == 8 then Some kind.SetAttr else
    (if code == 9 then Some kind.SetWindow else
    (if code == 10 then Some kind.Flush else
    (if code == 11 then Some kind.FlushO else None)))))))

-- a kind of change, and the bytes after it
unfoldable pub kind_at : List ℕ → Option (AuditKind × List ℕ)
kind_at [] = None
kind_at (code ∷ rest) = do
  found ← kind_of_code code
  Some (found, rest)

abbrev pub row_made : ℕ → AuditKind → ℕ → ℕ → ℕ → AuditRow
row_made moment kind object first second = record { moment = moment; kind = kind; object = object; first = first; second = second }

-- what comes after the kind of a row, and the bytes after the row
abbrev pub behind_kind : ℕ → AuditKind → List ℕ → Option (AuditRow × List ℕ)
behind_kind moment kind bytes = do
  object ← wire_number_at w64 bytes
  first ← wire_number_at w64 object.1
  second ← wire_number_at w64 first.1
  Some (row_made moment kind object.0 first.0 second.0, second.1)

-- a row of an audit, and the bytes after it
unfoldable pub row_at : List ℕ → Option (AuditRow × List ℕ)
row_at bytes = do
  moment ← wire_number_at w64 bytes
  found ← kind_at moment.1
  behind_kind moment.0 found.0 found.1

-- rows to the end, at most this many
unfoldable pub rows_at : ℕ → List ℕ → Option (List AuditRow)
rows_at most [] = Some []
rows_at zero (_ ∷ _) = None
rows_at (suc most) (b ∷ bytes) = do
  row ← row_at (b ∷ bytes)
  rows ← rows_at most row.1
  Some (row.0 ∷ rows)

unfoldable pub audit_rows_at : List ℕ → Option Reply
audit_rows_at bytes = do
  rows ← rows_at AUDIT_ROWS bytes
  Some (AuditRows rows)

-- rows behind those that were read already
abbrev pub with_front : List AuditRow → Option (List AuditRow) → Option (List AuditRow)
with_front front read = read >>= λ rows. Some (front ++ rows)

-- a reply, by its first byte
unfoldable pub wire_reply_at : List ℕ → Option Reply
wire_reply_at [] = None
wire_reply_at (kind ∷ rest) =
    if kind == 0 then refused_at rest else
    (if kind == 1 then changed_at rest else
    (if kind == 2 then created_at rest else
    (if kind == 3 then data_at rest else
    (if kind == 4 then attr_at rest else
    (if kind == 5 then audit_rows_at rest else None)))))
