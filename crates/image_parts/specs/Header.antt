-- The header of an image: how it is encoded in 512 bytes, how it is read from them, and its rules.
use Rattle.std.specs.Prelude.{◌≡◌, ℕ, ◌-◌, ◌<◌, ◌≤◌, List, ◌∷◌, ◌++◌, take, drop, slice_index}
use Rattle.std.specs.Int.{Width, w16, w32, w64, byte_len, from_be_bytes}
use Rattle.s4_types.specs.declared.limits.TheConstants.{MOST_FRAMES}
use Rattle.codec.specs.Versions.{fewest_frames_by}
use Rattle.codec.specs.Fields.{number, zeros}
use Rattle.image_parts.specs.declared.headers.Header.{Header}
use Rattle.image_parts.specs.declared.marks.ImageMark.{ImageMark}
use Rattle.image_parts.specs.declared.marks.ImageMark.TheVariants.{Third}
use Rattle.image_parts.specs.Marks.{records_of, digit_of, IsAuditCount}

-- the numbers of a list are bytes
abbrev pub AreBytes : List ℕ → Type 0
AreBytes bytes = (i : ℕ) → slice_index bytes i < 256

-- the number that bytes begin with; what is beyond their end counts as zeros
unfoldable pub number_in : Width → List ℕ → ℕ
number_in w bytes = from_be_bytes w (take (byte_len w) bytes)

-- the 512 bytes of a header with a mark: "S4IMAGE" and the digit, the numbers, and zeros
unfoldable pub header_bytes_by : ImageMark → Header → List ℕ
header_bytes_by mark h =
    0x53 ∷ 0x34 ∷ 0x49 ∷ 0x4d ∷ 0x41 ∷ 0x47 ∷ 0x45 ∷ digit_of mark ∷
    (number w16 h.frames ++ (zeros 6 ++ (number w64 h.clock ++ (number w64 h.window ++ (number w64 h.floor ++
    (number w64 h.next ++ (number w32 h.rows ++ (number w32 h.spans ++ (number w64 h.audit ++ zeros 448)))))))))

-- the 512 bytes of a header that is written now, which begin with "S4IMAGE3"
unfoldable pub header_bytes : Header → List ℕ
header_bytes h = header_bytes_by Third h

-- the numbers that are in the places of a header's, whatever the bytes are
unfoldable pub header_in : List ℕ → Header
header_in bytes = record {
  frames = number_in w16 (drop 8 bytes);
  clock = number_in w64 (drop 16 bytes);
  window = number_in w64 (drop 24 bytes);
  floor = number_in w64 (drop 32 bytes);
  next = number_in w64 (drop 40 bytes);
  rows = number_in w32 (drop 48 bytes);
  spans = number_in w32 (drop 52 bytes);
  audit = number_in w64 (drop 56 bytes);
}

-- a drive can have this many frames whose image has such a mark
abbrev pub IsFrameCountBy : ImageMark → ℕ → Type 0
IsFrameCountBy mark frames = (fewest_frames_by (records_of mark) ≤ frames) × (frames ≤ MOST_FRAMES)

-- the rules of a header with a mark
pub record KeepsHeaderRulesBy (mark : ImageMark) (h : Header) : Type 0 where
  pub frames : IsFrameCountBy mark h.frames
  pub window : h.clock - h.window ≤ h.floor
  pub floor : h.floor ≤ h.clock
  pub next : 1 ≤ h.next
  pub given : h.next - 1 ≤ h.clock
  pub audit : IsAuditCount mark h.audit

-- the rules of a header
abbrev pub KeepsHeaderRules : Header → Type 0
KeepsHeaderRules = KeepsHeaderRulesBy Third

-- the bytes begin with the header that is read from them, encoded with a mark, and it keeps the rules
pub record HasHeaderBy (mark : ImageMark) (bytes : List ℕ) : Type 0 where
  pub spelled : take 512 bytes ≡ header_bytes_by mark (header_in bytes)
  pub rules : KeepsHeaderRulesBy mark (header_in bytes)

-- the bytes begin with the header that is read from them, encoded, and it keeps the rules
abbrev pub HasHeader : List ℕ → Type 0
HasHeader = HasHeaderBy Third
