-- Tests in a fixed order, of which the first that fails says the cause.
use Rattle.std.proofs.Common.{◌≡◌, ℕ, List, Option, Some, None, refl, sym, subst, inl, inr}
use Rattle.s4_types.specs.declared.refusals.Cause.{Cause}
use Rattle.s4_types.specs.declared.refusals.Cause.TheVariants.{Frame, Span, Row, Chain}
use Rattle.image_parts.specs.declared.headers.Header.{Header}
use Rattle.image_parts.specs.declared.marks.ImageMark.TheVariants.{Earlier}
use Rattle.image_parts.specs.Marks.{earlier_in}
use Rattle.image_parts.specs.Header.{header_in}
use Rattle.codec.specs.declared.versions.ImageVersion.{ImageVersion}
use Rattle.image_parts.specs.Frames.{KeepFrameRulesBy}
use Rattle.image_parts.specs.Spans.{KeepSpanRules}
use Rattle.image_parts.specs.Rows.{KeepRowRules}
use Rattle.image_parts.specs.Image.{Image, SpellsImageBy, header_of, image_in}
use Rattle.image_parts.specs.Causes.{Tested, HasDigest, FirstSplitCauseBy, FirstCauseBy}
use Rattle.verifier.proofs.Faults.{none_is_no_cause, test_passed, test_none, parts_passed, parts_behind, parts_none}
use Rattle.earlier_images.specs.Rows.{EarlierChainsStand}
use Rattle.earlier_images.specs.Grammar.{SpellsEarlier, FirstEarlierFault}
use Rattle.earlier_images.specs.private.Rest.{FirstEarlierRest}

-- ---- the image

-- what images_with_a_mark says of those of earlier versions
abbrev pub AreTested : Type 0
AreTested = (v : ImageVersion) (bytes : List ℕ) (image : Image) → SpellsImageBy (Earlier v) bytes image → FirstCauseBy (Earlier v) bytes None

abbrev pub AreReadAgain : Type 0
AreReadAgain = (v : ImageVersion) (bytes : List ℕ) (image : Image) → SpellsImageBy (Earlier v) bytes image → image_in bytes ≡ image

read_chains : AreReadAgain → (bytes : List ℕ) (image : Image) → SpellsEarlier bytes image → EarlierChainsStand (earlier_in bytes) (image_in bytes)
read_chains read bytes image spells = subst (EarlierChainsStand (earlier_in bytes)) (sym (read (earlier_in bytes) bytes image spells.parts)) spells.chains

pub nothing_spelled : AreTested → AreReadAgain → (bytes : List ℕ) (cause : Cause) (image : Image) → FirstEarlierFault bytes (Some cause) → SpellsEarlier bytes image → ⊥
nothing_spelled tests read bytes cause image fault spells =
    elim (parts_behind (Earlier (earlier_in bytes)) bytes (Tested (EarlierChainsStand (earlier_in bytes) (image_in bytes)) Chain (λ f. f ≡ None)) (Some cause) (tests (earlier_in bytes) bytes image spells.parts) fault) [
      | inl failed ↦ failed.0 (read_chains read bytes image spells)
      | inr held ↦ none_is_no_cause cause (sym held.1)
    ]

pub none_where_spelled : AreTested → AreReadAgain → (bytes : List ℕ) (image : Image) → SpellsEarlier bytes image → FirstEarlierFault bytes None
none_where_spelled tests read bytes image spells =
    parts_passed (Earlier (earlier_in bytes)) bytes (Tested (EarlierChainsStand (earlier_in bytes) (image_in bytes)) Chain (λ f. f ≡ None)) None (tests (earlier_in bytes) bytes image spells.parts) (inr (read_chains read bytes image spells, refl))

pub spelled_where_none : (bytes : List ℕ) → (FirstCauseBy (Earlier (earlier_in bytes)) bytes None → SpellsImageBy (Earlier (earlier_in bytes)) bytes (image_in bytes)) → FirstEarlierFault bytes None → SpellsEarlier bytes (image_in bytes)
spelled_where_none bytes is none =
    let parts : FirstCauseBy (Earlier (earlier_in bytes)) bytes None = parts_none (Earlier (earlier_in bytes)) bytes (Tested (EarlierChainsStand (earlier_in bytes) (image_in bytes)) Chain (λ f. f ≡ None)) none in
    record { parts = is parts; chains = (test_none (parts_behind (Earlier (earlier_in bytes)) bytes (Tested (EarlierChainsStand (earlier_in bytes) (image_in bytes)) Chain (λ f. f ≡ None)) None parts none)).0 }

-- ---- what was read

-- what comes after the digest, of these parts and this header
abbrev rest : ImageVersion → Header → Image → Option Cause → Type 0
rest v h image found = Tested (KeepFrameRulesBy v image.frames) Frame (Tested (KeepSpanRules h image.spans) Span (Tested (KeepRowRules h image.rows) Row (Tested (EarlierChainsStand v image) Chain (λ f. f ≡ None)))) found

-- and where they have theirs, what was found after it decides
pub rest_fault : (bytes : List ℕ) (parts : Image) (found : Option Cause) → FirstSplitCauseBy (Earlier (earlier_in bytes)) bytes None → parts ≡ image_in bytes → header_of parts ≡ header_in bytes → HasDigest bytes → FirstEarlierRest (earlier_in bytes) parts found → FirstEarlierFault bytes found
rest_fault bytes parts found tests is header digest later =
    let H : Header → Type 0 = λ h. rest (earlier_in bytes) h parts found in
    let P : Image → Type 0 = λ image. rest (earlier_in bytes) (header_in bytes) image found in
    let here : P (image_in bytes) = subst P is (subst H header later) in
    test_passed tests (λ a. test_passed a (λ b. test_passed b (λ c. inr (digest, here))))
