-- Why bytes are no image: tests in a fixed order, each of which looks at all of the bytes before the next one does.
use Rattle.std.specs.Prelude.{◌≡◌, ◌⊎◌, ℕ, ◌-◌, ◌≤◌, List, length, take, drop, Option, Some, None}
use Rattle.sha2.specs.Sha256.{sha256}
use Rattle.s4_types.specs.declared.refusals.Cause.{Cause}
use Rattle.s4_types.specs.declared.refusals.Cause.TheVariants.{Header as HeaderCause, Length, Digest, Frame, Span as SpanCause, Row}
use Rattle.image_parts.specs.Header.{header_in, HasHeaderBy}
use Rattle.image_parts.specs.Frames.{KeepFrameRulesBy}
use Rattle.image_parts.specs.declared.marks.ImageMark.{ImageMark}
use Rattle.image_parts.specs.declared.marks.ImageMark.TheVariants.{Third}
use Rattle.image_parts.specs.Marks.{records_of}
use Rattle.image_parts.specs.Rows.{KeepRowRules}
use Rattle.image_parts.specs.Spans.{KeepSpanRules}
use Rattle.image_parts.specs.Image.{image_in, parts_length}

-- the bytes are as many as a header and a digest have
abbrev pub IsLong : List ℕ → Type 0
IsLong bytes = 544 ≤ length bytes

-- the parts fill the bytes exactly
abbrev pub IsFilled : List ℕ → Type 0
IsFilled bytes = length bytes ≡ parts_length bytes

-- the last 32 bytes are SHA-256 of all before them
abbrev pub HasDigest : List ℕ → Type 0
HasDigest bytes = drop (length bytes - 32) bytes ≡ sha256 (take (length bytes - 32) bytes)

-- a test fails, and its cause was found; or it holds, and what comes later decides
abbrev pub Tested : Type 0 → Cause → (Option Cause → Type 0) → Option Cause → Type 0
Tested holds cause later found = ((holds → ⊥) × (found ≡ Some cause)) ⊎ (holds × later found)

-- the tests of whether the bytes can be split into the parts of an image with a mark, in their order, and what comes after them
abbrev pub TestedSplitBy : ImageMark → List ℕ → (Option Cause → Type 0) → Option Cause → Type 0
TestedSplitBy mark bytes later =
    Tested (IsLong bytes) Length (
    Tested (HasHeaderBy mark bytes) HeaderCause (
    Tested (IsFilled bytes) Length later))

-- the same for what is written now
abbrev pub TestedSplit : List ℕ → (Option Cause → Type 0) → Option Cause → Type 0
TestedSplit = TestedSplitBy Third

-- the cause of the first of these tests that fails, or none where they hold
abbrev pub FirstSplitCauseBy : ImageMark → List ℕ → Option Cause → Type 0
FirstSplitCauseBy mark bytes found = TestedSplitBy mark bytes (λ f. f ≡ None) found

abbrev pub FirstSplitCause : List ℕ → Option Cause → Type 0
FirstSplitCause = FirstSplitCauseBy Third

-- the tests of all parts of an image with a mark, in their order, and what comes after them
abbrev pub TestedPartsBy : ImageMark → List ℕ → (Option Cause → Type 0) → Option Cause → Type 0
TestedPartsBy mark bytes later =
    TestedSplitBy mark bytes (
    Tested (HasDigest bytes) Digest (
    Tested (KeepFrameRulesBy (records_of mark) (image_in bytes).frames) Frame (
    Tested (KeepSpanRules (header_in bytes) (image_in bytes).spans) SpanCause (
    Tested (KeepRowRules (header_in bytes) (image_in bytes).rows) Row later))))

abbrev pub TestedParts : List ℕ → (Option Cause → Type 0) → Option Cause → Type 0
TestedParts = TestedPartsBy Third

-- the cause of the first test that fails, or none where all hold
abbrev pub FirstCauseBy : ImageMark → List ℕ → Option Cause → Type 0
FirstCauseBy mark bytes found = TestedPartsBy mark bytes (λ f. f ≡ None) found

abbrev pub FirstCause : List ℕ → Option Cause → Type 0
FirstCause = FirstCauseBy Third
