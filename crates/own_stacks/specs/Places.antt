-- What is asked and said of the elements of a slice that begins at a place of a longer one.
use Rattle.std.specs.Prelude.{ℕ, ◌+◌, ◌<◌, List, length, slice_index_or}

-- P holds of each element and its place
pub record AtEach {X : Type 0} (P : ℕ → X → Type 0) (base : ℕ) (xs : List X) : Type 0 where
  pub at : (k : ℕ) (d : X) → k < length xs → P (base + k) (slice_index_or xs k d)

-- R holds of each place and of its element before and after
pub record AcrossEach {X : Type 0} (R : ℕ → X → X → Type 0) (base : ℕ) (xs ys : List X) : Type 0 where
  pub across : (k : ℕ) (d : X) → k < length xs → R (base + k) (slice_index_or xs k d) (slice_index_or ys k d)
