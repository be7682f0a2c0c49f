-- Where two lists of bytes differ.
use Rattle.std.specs.Prelude.{◌≡◌, ◌≢◌, ◌⊎◌, ⊤, ℕ, ◌+◌, ◌≤◌, List, [], ◌∷◌, slice_get}
use Rattle.history_diff.specs.declared.ranges.ByteRange.{ByteRange}

-- Two lists are alike at a position: they have the same byte there, or both end before it.
abbrev pub IsAlikeAt : List ℕ → List ℕ → ℕ → Type 0
IsAlikeAt a b i = slice_get a i ≡ slice_get b i

-- They differ there: they have different bytes, or one of them alone ends before it.
abbrev pub DiffersAt : List ℕ → List ℕ → ℕ → Type 0
DiffersAt a b i = slice_get a i ≢ slice_get b i

-- a position is in one of the ranges
abbrev pub IsInRanges : List ByteRange → ℕ → Type 0
IsInRanges [] i = ⊥
IsInRanges (r ∷ ranges) i = ((r.first ≤ i) × (i ≤ r.last)) ⊎ IsInRanges ranges i

-- Ranges from a position on ascend, and no two touch: between one and the next is a position at least.
abbrev pub AreApart : ℕ → List ByteRange → Type 0
AreApart low [] = ⊤
AreApart low (r ∷ ranges) = (low ≤ r.first) × (r.first ≤ r.last) × AreApart (r.last + 2) ranges

-- Two lists differ in these ranges: they ascend, no two touch, and the positions in them are exactly those at which the lists differ.
pub record AreRangesOf (a b : List ℕ) (ranges : List ByteRange) : Type 0 where
  pub apart : AreApart 0 ranges
  pub differing : (i : ℕ) → IsInRanges ranges i → DiffersAt a b i
  pub all : (i : ℕ) → DiffersAt a b i → IsInRanges ranges i

-- ---- what this comes to: it is a clause of a function with an empty body

-- The ranges of two lists are the only ones.
abbrev pub RangesAreOnly : Type 0
RangesAreOnly = (a b : List ℕ) (one other : List ByteRange) → AreRangesOf a b one → AreRangesOf a b other → one ≡ other
