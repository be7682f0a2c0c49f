-- The laws of the wire: no encoding begins another's, and a stream has one reading.
use Rattle.std.proofs.Common.{◌≡◌, ℕ, ◌≤◌, List, ◌++◌, length, Option, Some, None, refl, arith}
use Rattle.s4_types.specs.Sizes.{ReplyFits}
use Rattle.s4_types.specs.declared.limits.TheConstants.{FRAME_BODY_BYTES}
use Rattle.s4_types.specs.declared.requests.Request.{Request}
use Rattle.s4_types.specs.declared.requests.Request.TheVariants.{Update, Query, Control}
use Rattle.s4_types.specs.declared.requests.Question.TheVariants.{Read, GetAttr, Audit}
use Rattle.s4_types.specs.declared.requests.ObjectRequest.TheVariants.{Create, Delete, Write, Append, Truncate, SetAttr}
use Rattle.s4_types.specs.declared.requests.AdminRequest.TheVariants.{SetWindow, Flush, FlushO}
use Rattle.s4_types.specs.declared.replies.Reply.{Reply}
use Rattle.s4_types.specs.declared.replies.Reply.TheVariants.{Refused, Changed, Created, Data, Attr, AuditRows}
use Rattle.rpc.specs.Spelling.{at, request_spelling, reply_spelling, RequestFits, IsSpelledRequest, IsSpelledReply, SpellsRequest, SpellsReply}
use Rattle.rpc.specs.Stream.{frame}
use Rattle.rpc.proofs.RequestLaws.{request_exact}
use Rattle.rpc.proofs.RowLaws.{rows_length}
use Rattle.rpc.proofs.ReplyLaws.{reply_exact}
use Rattle.rpc.proofs.StreamLaws.{same_parts}

pub one_request : (body : List ℕ) (r s : Request) → SpellsRequest body r → SpellsRequest body s → r ≡ s
one_request body r s p q = let first = request_exact.again body r p in let second = request_exact.again body s q in cc

pub one_reply : (body : List ℕ) (r s : Reply) → SpellsReply body r → SpellsReply body s → r ≡ s
one_reply body r s p q = let first = reply_exact.again body r p in let second = reply_exact.again body s q in cc

at_short : (moment : Option ℕ) → length (at moment) ≤ 9
at_short None = omega arith
at_short (Some moment) = omega arith

pub request_short : (r : Request) → RequestFits r → length (request_spelling r) ≤ FRAME_BODY_BYTES
request_short (Update (Create attribute)) fits = omega arith
request_short (Update (Delete object)) fits = omega arith
request_short (Update (Write object offset bytes)) fits = omega arith
request_short (Update (Append object bytes)) fits = omega arith
request_short (Update (Truncate object size)) fits = omega arith
request_short (Update (SetAttr object attribute)) fits = omega arith
request_short (Query (Read object offset len moment)) fits = let short = at_short moment in omega (arith, short)
request_short (Query (GetAttr object moment)) fits = let short = at_short moment in omega (arith, short)
request_short (Query (Audit from most)) fits = omega arith
request_short (Control (SetWindow window)) fits = omega arith
request_short (Control (Flush first last)) fits = omega arith
request_short (Control (FlushO object first last)) fits = omega arith

pub reply_short : (r : Reply) → ReplyFits r → length (reply_spelling r) ≤ FRAME_BODY_BYTES
reply_short (Refused refusal) fits = omega arith
reply_short (Changed moment) fits = omega arith
reply_short (Created object moment) fits = omega arith
reply_short (Data bytes) fits = omega arith
reply_short (Attr size created changed attribute) fits = omega arith
reply_short (AuditRows rows) fits = omega (arith, fits, rows_length rows)

-- what comes after two frames is one
same_frames : (a x b y : List ℕ) → length a ≤ FRAME_BODY_BYTES → length b ≤ FRAME_BODY_BYTES → frame a ++ x ≡ frame b ++ y → (a ≡ b) × (x ≡ y)
same_frames a x b y p q e = same_parts (frame a ++ x) a x b y (record { whole = refl; size = p }) (record { whole = e; size = q })

pub request_apart : (r s : Request) (x y : List ℕ) → IsSpelledRequest r → IsSpelledRequest s → frame (request_spelling r) ++ x ≡ frame (request_spelling s) ++ y → (r ≡ s) × (x ≡ y)
request_apart r s x y p q e =
    let parts = same_frames (request_spelling r) x (request_spelling s) y (request_short r p.0) (request_short s q.0) e in
    (one_request (request_spelling r) r s (p, refl) (q, parts.0), parts.1)

pub reply_apart : (r s : Reply) (x y : List ℕ) → IsSpelledReply r → IsSpelledReply s → frame (reply_spelling r) ++ x ≡ frame (reply_spelling s) ++ y → (r ≡ s) × (x ≡ y)
reply_apart r s x y p q e =
    let parts = same_frames (reply_spelling r) x (reply_spelling s) y (reply_short r p.0) (reply_short s q.0) e in
    (one_reply (reply_spelling r) r s (p, refl) (q, parts.0), parts.1)
