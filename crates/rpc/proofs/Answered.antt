-- From what a reader answered to what a decoder promises.
use Rattle.std.proofs.Common.{◌≡◌, ℕ, List, Option, Some, None}
use Rattle.rpc.proofs.Exact.{Exact}

module _ {R : Type 0} {read : List ℕ → Option R} {Says : List ℕ → R → Type 0} (exact : Exact read Says) (bytes : List ℕ) where
  -- the value that was read is the only one that the bytes say
  pub only_one : (r other : R) → read bytes ≡ Some r → Says bytes other → r ≡ other
  only_one r other e s = let again = exact.again bytes other s in cc

  -- where nothing was read, the bytes say nothing
  pub says_nothing : read bytes ≡ None → (other : R) → Says bytes other → ⊥
  says_nothing e other s = let again = exact.again bytes other s in cc
