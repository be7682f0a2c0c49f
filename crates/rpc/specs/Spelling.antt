-- How requests and replies are encoded: each value has one body. Numbers stand with their highest byte first.
use Rattle.std.specs.Prelude.{◌≡◌, ℕ, ◌+◌, ◌^◌, ◌<◌, ◌≤◌, List, [], ◌∷◌, ◌++◌, length, Option, Some, None, IfSome}
use Rattle.std.specs.Int.{w16, w32, w64, to_be_bytes}
use Rattle.std.specs.List.{AllByRecursion, flat_map}
use Rattle.s4_types.specs.RefusalNumber.{number_of}
use Rattle.s4_types.specs.AuditKinds.{number_of_kind}
pub use Rattle.s4_types.specs.Sizes.{ReplyFits}
use Rattle.s4_types.specs.declared.limits.TheConstants.{FRAME_BODY_BYTES}
use Rattle.s4_types.specs.declared.audit_rows.AuditRow.{AuditRow}
use Rattle.s4_types.specs.declared.requests.Request.{Request}
use Rattle.s4_types.specs.declared.requests.Request.TheVariants.{Update, Query, Control}
use Rattle.s4_types.specs.declared.requests.Question.TheVariants.{Read, GetAttr, Audit}
use Rattle.s4_types.specs.declared.requests.ObjectRequest.TheVariants.{Create, Delete, Write, Append, Truncate, SetAttr}
use Rattle.s4_types.specs.declared.requests.AdminRequest.TheVariants.{SetWindow, Flush, FlushO}
use Rattle.s4_types.specs.declared.replies.Reply.{Reply}
use Rattle.s4_types.specs.declared.replies.Reply.TheVariants.{Refused, Changed, Created, Data, Attr, AuditRows}

-- eight bytes
abbrev pub long : ℕ → List ℕ
long n = to_be_bytes w64 n

-- four bytes
abbrev pub word : ℕ → List ℕ
word n = to_be_bytes w32 n

-- two bytes
abbrev pub short : ℕ → List ℕ
short n = to_be_bytes w16 n

-- one byte of length, and that many bytes
abbrev pub wire_text : List ℕ → List ℕ
wire_text bytes = length bytes ∷ bytes

-- a byte 0 for the present, or a byte 1 and the moment
abbrev pub at : Option ℕ → List ℕ
at None = 0 ∷ []
at (Some moment) = 1 ∷ long moment

-- the body of a request
abbrev pub request_spelling : Request → List ℕ
request_spelling (Update (Create attribute)) = 1 ∷ wire_text attribute
request_spelling (Update (Delete object)) = 2 ∷ long object
request_spelling (Query (Read object offset len moment)) = 3 ∷ (long object ++ (long offset ++ (word len ++ at moment)))
request_spelling (Update (Write object offset bytes)) = 4 ∷ (long object ++ (long offset ++ bytes))
request_spelling (Update (Append object bytes)) = 5 ∷ (long object ++ bytes)
request_spelling (Update (Truncate object size)) = 6 ∷ (long object ++ long size)
request_spelling (Query (GetAttr object moment)) = 7 ∷ (long object ++ at moment)
request_spelling (Update (SetAttr object attribute)) = 8 ∷ (long object ++ wire_text attribute)
request_spelling (Control (SetWindow window)) = 9 ∷ long window
request_spelling (Control (Flush first last)) = 10 ∷ (long first ++ long last)
request_spelling (Control (FlushO object first last)) = 11 ∷ (long object ++ (long first ++ long last))
request_spelling (Query (Audit from most)) = 12 ∷ (long from ++ short most)

-- a row of an audit, 33 bytes
abbrev pub row_spelling : AuditRow → List ℕ
row_spelling row = long row.moment ++ (number_of_kind row.kind ∷ (long row.object ++ (long row.first ++ long row.second)))

-- the body of a reply
abbrev pub reply_spelling : Reply → List ℕ
reply_spelling (Refused refusal) = 0 ∷ number_of refusal ∷ []
reply_spelling (Changed moment) = 1 ∷ long moment
reply_spelling (Created object moment) = 2 ∷ (long object ++ long moment)
reply_spelling (Data bytes) = 3 ∷ bytes
reply_spelling (Attr size created changed attribute) = 4 ∷ (word size ++ (long created ++ (long changed ++ wire_text attribute)))
reply_spelling (AuditRows rows) = 5 ∷ flat_map row_spelling rows

-- The request's texts fit their places: an attribute tells its length in one byte, and the bytes of a write
-- end with the longest body.
abbrev pub RequestFits : Request → Type 0
RequestFits (Update (Create attribute)) = length attribute < 256
RequestFits (Update (Write object offset bytes)) = length bytes + 17 ≤ FRAME_BODY_BYTES
RequestFits (Update (Append object bytes)) = length bytes + 9 ≤ FRAME_BODY_BYTES
RequestFits (Update (SetAttr object attribute)) = length attribute < 256
RequestFits _ = Unit {0}

-- the numbers are numbers of the request's type
abbrev pub RequestNumbers : Request → Type 0
RequestNumbers (Update (Create attribute)) = Unit {0}
RequestNumbers (Update (Delete object)) = object < 2 ^ 64
RequestNumbers (Query (Read object offset len moment)) = (object < 2 ^ 64) × (offset < 2 ^ 64) × (len < 2 ^ 32) × IfSome moment (λ t. t < 2 ^ 64)
RequestNumbers (Update (Write object offset bytes)) = (object < 2 ^ 64) × (offset < 2 ^ 64)
RequestNumbers (Update (Append object bytes)) = object < 2 ^ 64
RequestNumbers (Update (Truncate object size)) = (object < 2 ^ 64) × (size < 2 ^ 64)
RequestNumbers (Query (GetAttr object moment)) = (object < 2 ^ 64) × IfSome moment (λ t. t < 2 ^ 64)
RequestNumbers (Update (SetAttr object attribute)) = object < 2 ^ 64
RequestNumbers (Control (SetWindow window)) = window < 2 ^ 64
RequestNumbers (Control (Flush first last)) = (first < 2 ^ 64) × (last < 2 ^ 64)
RequestNumbers (Control (FlushO object first last)) = (object < 2 ^ 64) × (first < 2 ^ 64) × (last < 2 ^ 64)
RequestNumbers (Query (Audit from most)) = (from < 2 ^ 64) × (most < 2 ^ 16)

-- the numbers are numbers of a row's type
pub record RowNumbers (row : AuditRow) : Type 0 where
  pub moment : row.moment < 2 ^ 64
  pub object : row.object < 2 ^ 64
  pub first : row.first < 2 ^ 64
  pub second : row.second < 2 ^ 64

-- the numbers are numbers of the reply's type
abbrev pub ReplyNumbers : Reply → Type 0
ReplyNumbers (Refused refusal) = Unit {0}
ReplyNumbers (Changed moment) = moment < 2 ^ 64
ReplyNumbers (Created object moment) = (object < 2 ^ 64) × (moment < 2 ^ 64)
ReplyNumbers (Data bytes) = Unit {0}
ReplyNumbers (Attr size created changed attribute) = (size < 2 ^ 32) × (created < 2 ^ 64) × (changed < 2 ^ 64)
ReplyNumbers (AuditRows rows) = AllByRecursion RowNumbers rows

-- the request has an encoding
abbrev pub IsSpelledRequest : Request → Type 0
IsSpelledRequest request = RequestFits request × RequestNumbers request

-- the reply has an encoding
abbrev pub IsSpelledReply : Reply → Type 0
IsSpelledReply reply = ReplyFits reply × ReplyNumbers reply

-- the body encodes this request
abbrev pub SpellsRequest : List ℕ → Request → Type 0
SpellsRequest body request = IsSpelledRequest request × (body ≡ request_spelling request)

-- the body encodes this reply
abbrev pub SpellsReply : List ℕ → Reply → Type 0
SpellsReply body reply = IsSpelledReply reply × (body ≡ reply_spelling reply)
