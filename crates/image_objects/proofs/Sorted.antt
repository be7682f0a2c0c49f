-- In a list that is sorted, a number that is twice is at two places in a row.
use Rattle.std.proofs.Common.{◌≡◌, ◌↔◌, inl, inr, ℕ, ◌+◌, ◌<◌, ◌≤◌, List, length, slice_index, get_or, arith}
use Rattle.std.specs.Prelude.{nat_eq}
use Rattle.std.specs.Cmp.{unsigned_Decides}
use Rattle.std.specs.List.{AllPairs}
use Rattle.std.specs.List.Sorted.{IsPermutation, IsSorted, IsNonDecreasing, IsStrictlyIncreasing}
use Rattle.std.specs.Ordering.{nat_cmp}
use Rattle.std.proofs.lemmas.Bool.{cases_lt}
use Rattle.std.proofs.lemmas.List.Kept.{AllPairs-from_increasing}
use Rattle.std.proofs.lemmas.List.Sorted.{IsPermutation-sym, IsNonDecreasingBy-from_sort}
use Rattle.std.proofs.lemmas.Map.Keys.{IsDistinct-IsPermutation, IsStrictlyIncreasing-from_distinct}
use Rattle.std.proofs.lemmas.Map.Made.{IsDistinct-from_AllPairs}
use Rattle.image_objects.specs.Moments.{StandOnce}

abbrev pub NeighboursDiffer : List ℕ → Type 0
NeighboursDiffer numbers = (k : ℕ) → k + 1 < length numbers → slice_index numbers k ≡ slice_index numbers (k + 1) → ⊥

flips : (x y : ℕ) → nat_eq x y ≡ nat_eq y x
flips x y = grind (arith)

rise : (ys : List ℕ) → IsNonDecreasing ys → NeighboursDiffer ys → IsStrictlyIncreasing ys
rise ys sorted differ k below = elim (cases_lt (slice_index ys k) (slice_index ys (k + 1))) [
  | inl less ↦ less
  | inr le ↦ (let up : slice_index ys k ≤ slice_index ys (k + 1) = sorted k (k + 1) 0 (omega arith) below in absurd (differ k below (omega (arith, up, le))))
]

pub neighbours : (xs ys : List ℕ) → IsPermutation xs ys → IsSorted nat_cmp ys → StandOnce xs ↔ NeighboursDiffer ys
neighbours xs ys moved sorted =
    let order : IsNonDecreasing ys = IsNonDecreasingBy-from_sort (λ (x : ℕ). x) ys sorted in (
      λ once k below same.
          let up : slice_index ys k < slice_index ys (k + 1) = IsStrictlyIncreasing-from_distinct ys order (IsDistinct-IsPermutation nat_eq flips xs ys moved once) k below in
          omega (arith, up, same),
      λ differ.
          let pairs : AllPairs (λ x y. x < y) ys = AllPairs-from_increasing ys (rise ys order differ) in
          let apart : AllPairs (λ x y. x ≡ y → ⊥) ys = λ i j d less below is. (let up : get_or ys i d < get_or ys j d = pairs i j d less below in omega (arith, up, is)) in
          IsDistinct-IsPermutation nat_eq flips ys xs (IsPermutation-sym xs ys moved) (IsDistinct-from_AllPairs unsigned_Decides ys apart),
    )
