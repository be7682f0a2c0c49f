-- Tests in a fixed order, of which the first that fails tells the cause.
use Rattle.std.proofs.Common.{◌≡◌, ◌⊎◌, ℕ, List, Option, Some, None, refl, sym, ◌∙◌, subst, inl, inr}
use Rattle.s4_types.specs.declared.refusals.Cause.{Cause}
use Rattle.s4_types.specs.declared.refusals.Cause.TheVariants.{Digest, Frame, Span, Row, Chain, Audit}
use Rattle.image_parts.specs.declared.headers.Header.{Header}
use Rattle.image_parts.specs.declared.marks.ImageMark.{ImageMark}
use Rattle.image_parts.specs.declared.marks.ImageMark.TheVariants.{Third}
use Rattle.image_parts.specs.Header.{header_in}
use Rattle.image_parts.specs.Frames.{KeepFrameRules}
use Rattle.image_parts.specs.Spans.{KeepSpanRules}
use Rattle.image_parts.specs.Rows.{KeepRowRules}
use Rattle.image_parts.specs.Image.{Image, SpellsImage, header_of, image_in}
use Rattle.image_parts.specs.Causes.{Tested, TestedPartsBy, HasDigest, FirstSplitCause, FirstCause, FirstCauseBy}
use Rattle.verifier.specs.Rows.{ChainsStand}
use Rattle.verifier.specs.Audit.{AuditStands}
use Rattle.verifier.specs.Grammar.{SpellsDrive, FirstFault}
use Rattle.verifier.specs.private.Rest.{FirstRestCause}

-- ---- one test

pub none_is_no_cause : {P : Type 0} (cause : Cause) → ◌≡◌ {A = Option Cause} None (Some cause) → P
none_is_no_cause cause e = absurd (cc)

-- one test: it fails and its cause was found, or it holds and something else holds too
abbrev pub Test : Type 0 → Cause → Type 0 → Option Cause → Type 0
Test holds cause later found = ((holds → ⊥) × (found ≡ Some cause)) ⊎ (holds × later)

-- a test that holds does so whatever comes after
pub test_passed : {holds early late : Type 0} {cause : Cause} {found : Option Cause} → Test holds cause early None → (early → late) → Test holds cause late found
test_passed {cause = cause} (inl failed) on = none_is_no_cause cause failed.1
test_passed (inr held) on = inr (held.0, on held.1)

-- where all tests hold, what comes after them decides
pub test_both : {holds early late : Type 0} {cause : Cause} {found : Option Cause} → Test holds cause early None → Test holds cause late found → early × late
test_both {cause = cause} (inl failed) other = none_is_no_cause cause failed.1
test_both (inr held) (inl failed) = absurd (failed.0 held.0)
test_both (inr held) (inr other) = (held.1, other.1)

-- where nothing was found, the test held
pub test_none : {holds later : Type 0} {cause : Cause} → Test holds cause later None → holds × later
test_none {cause = cause} (inl failed) = none_is_no_cause cause failed.1
test_none (inr held) = held

-- a test that fails does so whatever comes after
pub test_kept : {holds early late : Type 0} {cause : Cause} {found : Option Cause} → Test holds cause early found → (early → late) → Test holds cause late found
test_kept (inl failed) on = inl failed
test_kept (inr held) on = inr (held.0, on held.1)

-- the tests come to one cause
pub test_one : {holds early late : Type 0} {cause : Cause} {found other : Option Cause} → Test holds cause early found → Test holds cause late other → (early → late → found ≡ other) → found ≡ other
test_one (inl a) (inl b) on = a.1 ∙ sym b.1
test_one (inl a) (inr b) on = absurd (a.0 b.0)
test_one (inr a) (inl b) on = absurd (b.0 a.0)
test_one (inr a) (inr b) on = on a.1 b.1

-- ---- all tests

-- where all tests of parts hold, what comes after them decides
pub parts_passed : (mark : ImageMark) (bytes : List ℕ) (late : Option Cause → Type 0) (found : Option Cause) → FirstCauseBy mark bytes None → late found → TestedPartsBy mark bytes late found
parts_passed mark bytes late found tests on =
    test_passed tests (λ a. test_passed a (λ b. test_passed b (λ c. test_passed c (λ d. test_passed d (λ e. test_passed e (λ f. test_passed f (λ g. on)))))))

-- what comes after the tests of parts, where those hold
pub parts_behind : (mark : ImageMark) (bytes : List ℕ) (late : Option Cause → Type 0) (found : Option Cause) → FirstCauseBy mark bytes None → TestedPartsBy mark bytes late found → late found
parts_behind mark bytes late found tests all =
    let a = test_both tests all in
    let b = test_both a.0 a.1 in
    let c = test_both b.0 b.1 in
    let d = test_both c.0 c.1 in
    let e = test_both d.0 d.1 in
    let f = test_both e.0 e.1 in
    (test_both f.0 f.1).1

-- where nothing was found, nothing was by the tests of parts
pub parts_none : (mark : ImageMark) (bytes : List ℕ) (late : Option Cause → Type 0) → TestedPartsBy mark bytes late None → FirstCauseBy mark bytes None
parts_none mark bytes late tests =
    test_kept tests (λ a. test_kept a (λ b. test_kept b (λ c. test_kept c (λ d. test_kept d (λ e. test_kept e (λ f. test_kept f (λ g. refl)))))))

-- ---- the image

-- the tests behind those of the parts
abbrev behind_parts : Image → Option Cause → Type 0
behind_parts image found = Tested (ChainsStand image) Chain (Tested (AuditStands image) Audit (λ f. f ≡ None)) found

-- what an_image_is_read and what_no_test_refuses_is_an_image tell
abbrev pub AreTested : Type 0
AreTested = (bytes : List ℕ) (image : Image) → SpellsImage bytes image → FirstCause bytes None

abbrev pub AreReadAgain : Type 0
AreReadAgain = (bytes : List ℕ) (image : Image) → SpellsImage bytes image → image_in bytes ≡ image

read_chains : AreReadAgain → (bytes : List ℕ) (image : Image) → SpellsDrive bytes image → ChainsStand (image_in bytes)
read_chains read bytes image spells = subst ChainsStand (sym (read bytes image spells.parts)) spells.chains

read_audit : AreReadAgain → (bytes : List ℕ) (image : Image) → SpellsDrive bytes image → AuditStands (image_in bytes)
read_audit read bytes image spells = subst AuditStands (sym (read bytes image spells.parts)) spells.audit

pub nothing_spelled : AreTested → AreReadAgain → (bytes : List ℕ) (cause : Cause) (image : Image) → FirstFault bytes (Some cause) → SpellsDrive bytes image → ⊥
nothing_spelled tests read bytes cause image fault spells =
    elim (parts_behind Third bytes (behind_parts (image_in bytes)) (Some cause) (tests bytes image spells.parts) fault) [
      | inl failed ↦ failed.0 (read_chains read bytes image spells)
      | inr held ↦ elim (held.1) [
        | inl failed ↦ failed.0 (read_audit read bytes image spells)
        | inr kept ↦ none_is_no_cause cause (sym kept.1)
      ]
    ]

pub none_where_spelled : AreTested → AreReadAgain → (bytes : List ℕ) (image : Image) → SpellsDrive bytes image → FirstFault bytes None
none_where_spelled tests read bytes image spells =
    parts_passed Third bytes (behind_parts (image_in bytes)) None (tests bytes image spells.parts) (inr (read_chains read bytes image spells, inr (read_audit read bytes image spells, refl)))

pub spelled_where_none : (bytes : List ℕ) → (FirstCause bytes None → SpellsImage bytes (image_in bytes)) → FirstFault bytes None → SpellsDrive bytes (image_in bytes)
spelled_where_none bytes is none =
    let parts : FirstCause bytes None = parts_none Third bytes (behind_parts (image_in bytes)) none in
    let chains = test_none (parts_behind Third bytes (behind_parts (image_in bytes)) None parts none) in
    record { parts = is parts; chains = chains.0; audit = (test_none chains.1).0 }

pub one_fault : (bytes : List ℕ) (found other : Option Cause) → FirstFault bytes found → FirstFault bytes other → found ≡ other
one_fault bytes found other x y =
    test_one x y (λ a b. test_one a b (λ a b. test_one a b (λ a b. test_one a b (λ a b. test_one a b
    (λ a b. test_one a b (λ a b. test_one a b (λ a b. test_one a b (λ a b. test_one a b (λ p q. p ∙ sym q)))))))))

-- ---- what was read

-- where the bytes can't be split, that is the fault
pub split_fault : (bytes : List ℕ) (cause : Cause) → FirstSplitCause bytes (Some cause) → FirstFault bytes (Some cause)
split_fault bytes cause tests = test_kept tests (λ a. test_kept a (λ b. test_kept b (λ c. none_is_no_cause cause (sym c))))

-- where they can, and have another digest, this is
pub digest_fault : (bytes : List ℕ) → FirstSplitCause bytes None → (HasDigest bytes → ⊥) → FirstFault bytes (Some Digest)
digest_fault bytes tests other = test_passed tests (λ a. test_passed a (λ b. test_passed b (λ c. inl (other, refl))))

-- what comes after the digest, of these parts and this header
abbrev rest : Header → Image → Option Cause → Type 0
rest h image found = Tested (KeepFrameRules image.frames) Frame (Tested (KeepSpanRules h image.spans) Span (Tested (KeepRowRules h image.rows) Row (behind_parts image))) found

-- and where they have theirs, what was found after it decides
pub rest_fault : (bytes : List ℕ) (parts : Image) (found : Option Cause) → FirstSplitCause bytes None → parts ≡ image_in bytes → header_of parts ≡ header_in bytes → HasDigest bytes → FirstRestCause parts found → FirstFault bytes found
rest_fault bytes parts found tests is header digest later =
    let H : Header → Type 0 = λ h. rest h parts found in
    let P : Image → Type 0 = λ image. rest (header_in bytes) image found in
    let here : P (image_in bytes) = subst P is (subst H header later) in
    test_passed tests (λ a. test_passed a (λ b. test_passed b (λ c. inr (digest, here))))
