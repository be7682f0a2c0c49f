-- Which cause the tests come to, where they fail and where all hold.
use Rattle.std.proofs.Common.{◌≡◌, List, ℕ, Option, None, refl, sym, ◌∙◌, inl, inr}
use Rattle.s4_types.specs.declared.refusals.Cause.{Cause}
use Rattle.s4_types.specs.declared.refusals.Cause.TheVariants.{Header as HeaderCause, Length, Digest, Frame, Span as SpanCause, Row}
use Rattle.image_parts.specs.Header.{header_in, HasHeaderBy}
use Rattle.image_parts.specs.Frames.{KeepFrameRulesBy}
use Rattle.image_parts.specs.Rows.{KeepRowRules}
use Rattle.image_parts.specs.Spans.{KeepSpanRules}
use Rattle.image_parts.specs.Image.{image_in}
use Rattle.image_parts.specs.Causes.{IsLong, IsFilled, HasDigest, Tested, FirstCauseBy}
use Rattle.image_parts.specs.declared.marks.ImageMark.{ImageMark}
use Rattle.image_parts.specs.Marks.{records_of}

-- all tests hold
pub all_hold : (v : ImageMark) (bytes : List ℕ) → IsLong bytes → HasHeaderBy v bytes → IsFilled bytes → HasDigest bytes → KeepFrameRulesBy (records_of v) (image_in bytes).frames → KeepSpanRules (header_in bytes) (image_in bytes).spans → KeepRowRules (header_in bytes) (image_in bytes).rows → FirstCauseBy v bytes None
all_hold v bytes long header filled digest frames spans rows = inr (long, inr (header, inr (filled, inr (digest, inr (frames, inr (spans, inr (rows, refl)))))))

-- ---- one cause

same_tested : (P : Type 0) (cause : Cause) (later : Option Cause → Type 0) → ((a b : Option Cause) → later a → later b → a ≡ b) → (a b : Option Cause) → Tested P cause later a → Tested P cause later b → a ≡ b
same_tested P cause later same a b (inl (bad, x)) (inl (bad', y)) = x ∙ sym y
same_tested P cause later same a b (inl (bad, x)) (inr (holds, l)) = absurd (bad holds)
same_tested P cause later same a b (inr (holds, l)) (inl (bad, y)) = absurd (bad holds)
same_tested P cause later same a b (inr (holds, l)) (inr (holds', l')) = same a b l l'

-- the tests from one of them on
abbrev from_row : List ℕ → Option Cause → Type 0
from_row bytes = Tested (KeepRowRules (header_in bytes) (image_in bytes).rows) Row (λ f. f ≡ None)

abbrev from_span : List ℕ → Option Cause → Type 0
from_span bytes = Tested (KeepSpanRules (header_in bytes) (image_in bytes).spans) SpanCause (from_row bytes)

abbrev from_frame : ImageMark → List ℕ → Option Cause → Type 0
from_frame v bytes = Tested (KeepFrameRulesBy (records_of v) (image_in bytes).frames) Frame (from_span bytes)

abbrev from_digest : ImageMark → List ℕ → Option Cause → Type 0
from_digest v bytes = Tested (HasDigest bytes) Digest (from_frame v bytes)

abbrev from_filled : ImageMark → List ℕ → Option Cause → Type 0
from_filled v bytes = Tested (IsFilled bytes) Length (from_digest v bytes)

abbrev from_header : ImageMark → List ℕ → Option Cause → Type 0
from_header v bytes = Tested (HasHeaderBy v bytes) HeaderCause (from_filled v bytes)

pub one_cause : (v : ImageMark) (bytes : List ℕ) (a b : Option Cause) → FirstCauseBy v bytes a → FirstCauseBy v bytes b → a ≡ b
one_cause v bytes =
    let none : (a b : Option Cause) → (a ≡ None) → (b ≡ None) → a ≡ b = λ a b x y. x ∙ sym y in
    let row = same_tested (KeepRowRules (header_in bytes) (image_in bytes).rows) Row (λ f. f ≡ None) none in
    let span = same_tested (KeepSpanRules (header_in bytes) (image_in bytes).spans) SpanCause (from_row bytes) row in
    let frame = same_tested (KeepFrameRulesBy (records_of v) (image_in bytes).frames) Frame (from_span bytes) span in
    let digest = same_tested (HasDigest bytes) Digest (from_frame v bytes) frame in
    let filled = same_tested (IsFilled bytes) Length (from_digest v bytes) digest in
    let header = same_tested (HasHeaderBy v bytes) HeaderCause (from_filled v bytes) filled in
    same_tested (IsLong bytes) Length (from_header v bytes) header
