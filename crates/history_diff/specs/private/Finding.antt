-- How the ranges of two lists are found, one after the other.
use Rattle.std.specs.Prelude.{ℕ, ◌+◌, ◌<◌, ◌≤◌, ◌==◌, max, Bool, true, false, List, length, Option, Some, None}
use Rattle.history_diff.specs.declared.ranges.ByteRange.{ByteRange}
use Rattle.history_diff.specs.Ranges.{IsAlikeAt, DiffersAt}

-- whether two look-ups give the same
abbrev pub same_byte : Option ℕ → Option ℕ → Bool
same_byte None None = true
same_byte (Some b) (Some c) = b == c
same_byte _ _ = false

-- This is the first position from one on at which two lists differ.
pub record IsFirstDiffering (a b : List ℕ) (start at : ℕ) : Type 0 where
  pub begun : start ≤ at
  pub within : at < max (length a) (length b)
  pub alike : (i : ℕ) → start ≤ i → i < at → IsAlikeAt a b i
  pub differs : DiffersAt a b at

-- Two lists differ from a position to this one, both included, and are alike after it.
pub record IsRunEnd (a b : List ℕ) (first last : ℕ) : Type 0 where
  pub ordered : first ≤ last
  pub within : last < max (length a) (length b)
  pub run : (i : ℕ) → first ≤ i → i ≤ last → DiffersAt a b i
  pub ended : IsAlikeAt a b (last + 1)

-- This is the first range from a position on.
pub record IsNextRange (a b : List ℕ) (start : ℕ) (r : ByteRange) : Type 0 where
  pub begun : start ≤ r.first
  pub alike : (i : ℕ) → start ≤ i → i < r.first → IsAlikeAt a b i
  pub ends : IsRunEnd a b r.first r.last
