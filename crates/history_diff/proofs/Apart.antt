-- Ranges that are found one after the other are those of the positions that differ, and the only ones.
use Rattle.std.proofs.Common.{◌≡◌, ◌≢◌, ◌+◌, ◌≤◌, ℕ, List, [], ◌∷◌, inl, inr, refl, sym, ap₂, subst, arith}
use Rattle.std.proofs.lemmas.Bool.{cases_lt}
use Rattle.history_diff.specs.declared.ranges.ByteRange.{ByteRange}
use Rattle.history_diff.specs.Ranges.{IsAlikeAt, DiffersAt, IsInRanges, AreApart, AreRangesOf, RangesAreOnly}
use Rattle.history_diff.specs.private.Finding.{IsNextRange}

-- these are all ranges from a position on
abbrev pub AreRangesFrom : List ℕ → List ℕ → ℕ → List ByteRange → Type 0
AreRangesFrom a b start [] = (i : ℕ) → start ≤ i → IsAlikeAt a b i
AreRangesFrom a b start (r ∷ ranges) = IsNextRange a b start r × AreRangesFrom a b (r.last + 1) ranges

-- ---- they are apart, and have exactly the positions that differ

-- the next range doesn't touch the one in front of it
next_is_apart : (a b : List ℕ) (r : ByteRange) (ranges : List ByteRange) → IsAlikeAt a b (r.last + 1) → AreRangesFrom a b (r.last + 1) ranges → AreApart (r.last + 1) ranges → AreApart (r.last + 2) ranges
next_is_apart a b r [] ended found apart = tt
next_is_apart a b r (s ∷ ranges) ended found apart =
    let above : r.last + 1 ≤ s.first = apart.0 in
    let ordered : s.first ≤ s.last = apart.1 in
    let other : r.last + 1 ≢ s.first = λ same. found.0.ends.run s.first (omega arith) ordered (subst (IsAlikeAt a b) same ended) in
    (omega (arith, above, other), ordered, apart.2)

are_apart : (a b : List ℕ) (start : ℕ) (ranges : List ByteRange) → AreRangesFrom a b start ranges → AreApart start ranges
are_apart a b start [] found = tt
are_apart a b start (r ∷ ranges) found =
    (found.0.begun, found.0.ends.ordered, next_is_apart a b r ranges found.0.ends.ended found.1 (are_apart a b (r.last + 1) ranges found.1))

-- each position in them differs
inside_differs : (a b : List ℕ) (start : ℕ) (ranges : List ByteRange) → AreRangesFrom a b start ranges → (i : ℕ) → IsInRanges ranges i → DiffersAt a b i
inside_differs a b start [] found i inside = absurd inside
inside_differs a b start (r ∷ ranges) found i (inl here) = found.0.ends.run i here.0 here.1
inside_differs a b start (r ∷ ranges) found i (inr later) = inside_differs a b (r.last + 1) ranges found.1 i later

-- each that differs is in them
differing_inside : (a b : List ℕ) (start : ℕ) (ranges : List ByteRange) → AreRangesFrom a b start ranges → (i : ℕ) → start ≤ i → DiffersAt a b i → IsInRanges ranges i
differing_inside a b start [] found i above differs = differs (found i above)
differing_inside a b start (r ∷ ranges) found i above differs =
    elim (cases_lt i r.first) [
      | inl before ↦ absurd (differs (found.0.alike i above before))
      | inr up ↦ elim (cases_lt r.last i) [
        | inl beyond ↦ inr (differing_inside a b (r.last + 1) ranges found.1 i (omega (arith, beyond)) differs)
        | inr down ↦ inl (up, down)
      ]
    ]

pub are_ranges : (a b : List ℕ) (ranges : List ByteRange) → AreRangesFrom a b 0 ranges → AreRangesOf a b ranges
are_ranges a b ranges found = record {
  apart = are_apart a b 0 ranges found;
  differing = inside_differs a b 0 ranges found;
  all = λ i differs. differing_inside a b 0 ranges found i (omega arith) differs;
}

-- ---- no other ranges have them

-- the positions of some ranges are positions of others
abbrev AreWithin : List ByteRange → List ByteRange → Type 0
AreWithin xs ys = (i : ℕ) → IsInRanges xs i → IsInRanges ys i

-- a position in them isn't below their begin
inside_above : (low : ℕ) (ranges : List ByteRange) → AreApart low ranges → (i : ℕ) → IsInRanges ranges i → low ≤ i
inside_above low [] apart i inside = absurd inside
inside_above low (r ∷ ranges) apart i (inl here) = omega (arith, apart.0, here.0)
inside_above low (r ∷ ranges) apart i (inr later) = omega (arith, apart.0, apart.1, inside_above (r.last + 2) ranges apart.2 i later)

-- where the positions of some are positions of others, the others begin no later
begins_no_later : (low : ℕ) (r s : ByteRange) (xs ys : List ByteRange) → AreApart low (s ∷ ys) → r.first ≤ r.last → AreWithin (r ∷ xs) (s ∷ ys) → s.first ≤ r.first
begins_no_later low r s xs ys apart ordered within = inside_above s.first (s ∷ ys) (omega arith, apart.1, apart.2) r.first (within r.first (inl (omega arith, ordered)))

-- the position after the first range is in none
behind_is_outside : (low : ℕ) (r : ByteRange) (xs : List ByteRange) → AreApart low (r ∷ xs) → IsInRanges (r ∷ xs) (r.last + 1) → ⊥
behind_is_outside low r xs apart (inl here) = absurd (omega (arith, here.1))
behind_is_outside low r xs apart (inr later) = absurd (omega (arith, inside_above (r.last + 2) xs apart.2 (r.last + 1) later))

-- where they begin together, the first of some ends no later than that of the others
ends_no_later : (low : ℕ) (r s : ByteRange) (xs ys : List ByteRange) → AreApart low (r ∷ xs) → r.first ≡ s.first → AreWithin (s ∷ ys) (r ∷ xs) → s.last ≤ r.last
ends_no_later low r s xs ys apart first within =
    elim (cases_lt r.last s.last) [
      | inl beyond ↦ absurd (behind_is_outside low r xs apart (within (r.last + 1) (inl (omega (arith, first, apart.1), omega (arith, beyond)))))
      | inr up ↦ up
    ]

-- where the first ranges end together, the positions of the further ones are positions of the others' further ones
rest_is_within : (r s : ByteRange) (xs ys : List ByteRange) → AreApart (r.last + 2) xs → r.last ≡ s.last → AreWithin (r ∷ xs) (s ∷ ys) → AreWithin xs ys
rest_is_within r s xs ys apart last within i inside =
    elim (within i (inr inside)) [
      | inl here ↦ absurd (omega (arith, here.1, last, inside_above (r.last + 2) xs apart i inside))
      | inr later ↦ later
    ]

are_same : (low : ℕ) (xs ys : List ByteRange) → AreApart low xs → AreApart low ys → AreWithin xs ys → AreWithin ys xs → xs ≡ ys
are_same low [] [] one other there back = refl
are_same low [] (s ∷ ys) one other there back = absurd (back s.first (inl (omega arith, other.1)))
are_same low (r ∷ xs) [] one other there back = absurd (there r.first (inl (omega arith, one.1)))
are_same low (r ∷ xs) (s ∷ ys) one other there back =
    let first : r.first ≡ s.first = omega (arith, begins_no_later low r s xs ys other one.1 there, begins_no_later low s r ys xs one other.1 back) in
    let last : r.last ≡ s.last = omega (arith, ends_no_later low r s xs ys one first back, ends_no_later low s r ys xs other (sym first) there) in
    let same : r ≡ s = ap₂ (λ (m n : ℕ). record { first = m; last = n }) first last in
    let behind : AreApart (r.last + 2) ys = subst (λ n. AreApart (n + 2) ys) (sym last) other.2 in
    let rest : xs ≡ ys = are_same (r.last + 2) xs ys one.2 behind (rest_is_within r s xs ys one.2 last there) (rest_is_within s r ys xs other.2 (sym last) back) in
    ap₂ (λ (x : ByteRange) (l : List ByteRange). x ∷ l) same rest

pub ranges_are_only : RangesAreOnly
ranges_are_only a b one other these those =
    are_same 0 one other these.apart those.apart (λ i inside. those.all i (these.differing i inside)) (λ i inside. these.all i (those.differing i inside))
