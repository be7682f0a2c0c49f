-- An image: its parts, the one list of bytes that they give, and the parts that bytes give.
use Rattle.std.specs.Prelude.{◌≡◌, ℕ, ◌+◌, ◌*◌, ◌^◌, ◌<◌, List, ◌++◌, length, drop}
use Rattle.std.specs.List.{flat_map, AllByRecursion}
use Rattle.sha2.specs.Sha256.{sha256}
use Rattle.s4_types.specs.declared.spans.Span.{Span}
use Rattle.image_parts.specs.Header.{header_bytes_by, header_in, KeepsHeaderRulesBy}
use Rattle.image_parts.specs.Frames.{FrameFields, IsFrame, frame_bytes, frames_in, frames_length, KeepFrameRulesBy}
use Rattle.image_parts.specs.Rows.{IsRow, row_bytes, rows_in, KeepRowRules}
use Rattle.image_parts.specs.Spans.{IsSpan, span_bytes, spans_in, KeepSpanRules}
use Rattle.image_parts.specs.Audit.{IsAuditPart, audit_bytes, audits_in}
use Rattle.image_parts.specs.Marks.{records_of}
use Rattle.image_parts.specs.declared.audit.AuditPart.{AuditPart}
use Rattle.image_parts.specs.declared.headers.Header.{Header}
use Rattle.image_parts.specs.declared.marks.ImageMark.{ImageMark}
use Rattle.image_parts.specs.declared.marks.ImageMark.TheVariants.{Third}
use Rattle.image_parts.specs.declared.rows.RowPart.{RowPart}

-- the parts of an image
pub record Image : Type 0 where
  pub clock : ℕ
  pub window : ℕ
  pub floor : ℕ
  pub next : ℕ
  pub frames : List FrameFields
  pub rows : List RowPart
  pub spans : List Span
  pub audit : List AuditPart

-- the header of an image counts its parts
abbrev pub header_of : Image → Header
header_of image = record {
  frames = length image.frames;
  clock = image.clock;
  window = image.window;
  floor = image.floor;
  next = image.next;
  rows = length image.rows;
  spans = length image.spans;
  audit = length image.audit;
}

-- ---- encoding

-- all bytes in front of the digest, in an image with a mark
unfoldable pub front_bytes_by : ImageMark → Image → List ℕ
front_bytes_by mark image =
    header_bytes_by mark (header_of image) ++ (flat_map frame_bytes image.frames ++
    (flat_map row_bytes image.rows ++ (flat_map span_bytes image.spans ++ flat_map audit_bytes image.audit)))

-- all bytes in front of the digest
unfoldable pub front_bytes : Image → List ℕ
front_bytes image = front_bytes_by Third image

-- the bytes of an image with a mark: its parts, and SHA-256 of all of them
unfoldable pub image_bytes_by : ImageMark → Image → List ℕ
image_bytes_by mark image = front_bytes_by mark image ++ sha256 (front_bytes_by mark image)

-- the bytes of an image
unfoldable pub image_bytes : Image → List ℕ
image_bytes image = image_bytes_by Third image

-- an image has an encoding: its numbers are in their ranges
pub record IsImage (image : Image) : Type 0 where
  pub clock : image.clock < 2 ^ 64
  pub window : image.window < 2 ^ 64
  pub next : image.next < 2 ^ 64
  pub frames : AllByRecursion IsFrame image.frames
  pub rows : AllByRecursion IsRow image.rows
  pub spans : AllByRecursion IsSpan image.spans
  pub row_count : length image.rows < 2 ^ 32
  pub audit : AllByRecursion IsAuditPart image.audit
  pub audit_count : length image.audit < 2 ^ 64

-- the rules of the parts of an image with a mark, but for those of chains and of the audit
pub record KeepsRulesBy (mark : ImageMark) (image : Image) : Type 0 where
  pub header : KeepsHeaderRulesBy mark (header_of image)
  pub frames : KeepFrameRulesBy (records_of mark) image.frames
  pub spans : KeepSpanRules (header_of image) image.spans
  pub rows : KeepRowRules (header_of image) image.rows

-- the rules of an image's parts, but for those of chains and of the audit
abbrev pub KeepsRules : Image → Type 0
KeepsRules = KeepsRulesBy Third

-- the bytes encode this image with a mark, which keeps the rules
pub record SpellsImageBy (mark : ImageMark) (bytes : List ℕ) (image : Image) : Type 0 where
  pub is : IsImage image
  pub rules : KeepsRulesBy mark image
  pub spelled : bytes ≡ image_bytes_by mark image

-- the bytes encode this image, which keeps the rules
abbrev pub SpellsImage : List ℕ → Image → Type 0
SpellsImage = SpellsImageBy Third

-- ---- reading

-- what comes after the header
abbrev pub behind_header : List ℕ → List ℕ
behind_header bytes = drop 512 bytes

-- what comes after the frames
abbrev pub behind_frames : List ℕ → List ℕ
behind_frames bytes = drop (frames_length (header_in bytes).frames (behind_header bytes)) (behind_header bytes)

-- what comes after the rows
abbrev pub behind_rows : List ℕ → List ℕ
behind_rows bytes = drop (40 * (header_in bytes).rows) (behind_frames bytes)

-- what comes after the spans
abbrev pub behind_spans : List ℕ → List ℕ
behind_spans bytes = drop (24 * (header_in bytes).spans) (behind_rows bytes)

-- the parts that are read from bytes, whatever these are
unfoldable pub image_in : List ℕ → Image
image_in bytes = record {
  clock = (header_in bytes).clock;
  window = (header_in bytes).window;
  floor = (header_in bytes).floor;
  next = (header_in bytes).next;
  frames = frames_in (header_in bytes).frames (behind_header bytes);
  rows = rows_in (header_in bytes).rows (behind_frames bytes);
  spans = spans_in (header_in bytes).spans (behind_rows bytes);
  audit = audits_in (header_in bytes).audit (behind_spans bytes);
}

-- how many bytes the parts have with the digest, as the header and the words of the frames tell
abbrev pub parts_length : List ℕ → ℕ
parts_length bytes =
    512 + frames_length (header_in bytes).frames (behind_header bytes)
    + 40 * (header_in bytes).rows + 24 * (header_in bytes).spans + 33 * (header_in bytes).audit + 32

-- how many bytes the longest image with a header has: none of its frames is free
abbrev pub longest_of : Header → ℕ
longest_of h = 512 + 8 * h.frames + 8192 * h.frames + 40 * h.rows + 24 * h.spans + 33 * h.audit + 32
