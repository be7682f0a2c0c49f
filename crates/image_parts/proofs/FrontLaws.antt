-- What the first bytes of an image tell of all bytes that begin so.
use Rattle.std.proofs.Common.{◌≡◌, ℕ, ◌^◌, ◌<◌, ◌≤◌, min, List, ◌++◌, Some, length, take, refl, sym, ap, subst, ◌∙◌, arith, inl, inr, length-append}
use Rattle.std.proofs.lemmas.List.{take-append-le}
use Rattle.s4_types.specs.declared.refusals.Cause.TheVariants.{Header as HeaderCause, Length}
use Rattle.image_parts.specs.Header.{header_bytes_by, header_in, KeepsHeaderRulesBy, HasHeaderBy}
use Rattle.image_parts.specs.declared.marks.ImageMark.{ImageMark}
use Rattle.image_parts.specs.Image.{behind_header, longest_of}
use Rattle.image_parts.specs.Causes.{IsLong, IsFilled, FirstSplitCauseBy}
use Rattle.image_parts.proofs.FrameLists.{frames_most}
use Rattle.image_parts.proofs.HeaderLaws.{header_of_front}

-- they have the header of the front, where that has one
begins : (v : ImageMark) (front rest : List ℕ) → 544 ≤ length front → HasHeaderBy v front → HasHeaderBy v (front ++ rest)
begins v front rest long k =
    let header = header_of_front front rest (omega (arith, long)) in
    let first : take 512 (front ++ rest) ≡ take 512 front = take-append-le 512 front rest (omega (arith, long)) in
    record { spelled = first ∙ k.spelled ∙ ap (header_bytes_by v) (sym header); rules = subst (KeepsHeaderRulesBy v) (sym header) k.rules }

-- they have none, where it has none
begins_only : (v : ImageMark) (front rest : List ℕ) → 544 ≤ length front → HasHeaderBy v (front ++ rest) → HasHeaderBy v front
begins_only v front rest long k =
    let header = header_of_front front rest (omega (arith, long)) in
    let first : take 512 (front ++ rest) ≡ take 512 front = take-append-le 512 front rest (omega (arith, long)) in
    record { spelled = sym first ∙ k.spelled ∙ ap (header_bytes_by v) header; rules = subst (KeepsHeaderRulesBy v) header k.rules }

long_too : (front rest : List ℕ) → 544 ≤ length front → IsLong (front ++ rest)
long_too front rest long = omega (arith, long, length-append front rest)

-- where they are more than the longest image of their header has, their parts don't fill them
not_filled : (bytes : List ℕ) → longest_of (header_in bytes) < length bytes → IsFilled bytes → ⊥
not_filled bytes more filled =
    omega (arith, more, filled, frames_most (header_in bytes).frames (behind_header bytes))

pub longer : (v : ImageMark) (front rest : List ℕ) (longest : ℕ) → 544 ≤ length front → HasHeaderBy v front → longest ≡ min (2 ^ 62) (longest_of (header_in front)) → longest < 2 ^ 62 → longest < length (front ++ rest) → FirstSplitCauseBy v (front ++ rest) (Some Length)
longer v front rest longest long k is below more =
    let header = header_of_front front rest (omega (arith, long)) in
    let true_one : longest ≡ longest_of (header_in front) = omega (arith, is, below) in
    let too_many : longest_of (header_in (front ++ rest)) < length (front ++ rest) = rw (header, sym true_one) more in
    inr (long_too front rest long, inr (begins v front rest long k, inl (not_filled (front ++ rest) too_many, refl)))

pub no_header : (v : ImageMark) (front rest : List ℕ) → 544 ≤ length front → (HasHeaderBy v front → ⊥) → FirstSplitCauseBy v (front ++ rest) (Some HeaderCause)
no_header v front rest long none =
    inr (long_too front rest long, inl ((λ k. none (begins_only v front rest long k)), refl))
