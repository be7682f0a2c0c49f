-- Bytes that are copied over zeros.
use Rattle.std.proofs.Common.{◌≡◌, ℕ, zero, suc, ◌-◌, ◌≤◌, List, ◌++◌, length, take, drop, refl, ap, arith, length-append}
use Rattle.std.proofs.lemmas.List.{take_at}
use Rattle.codec.specs.Fields.{zeros, padded}
use Rattle.codec.proofs.Zeros.{zeros_length}

pub drop_zeros : (k n : ℕ) → drop k (zeros n) ≡ zeros (n - k)
unfolding zeros
drop_zeros zero n = let e : n - 0 ≡ n = omega arith in rw e refl
drop_zeros (suc k) zero = let e : 0 - suc k ≡ 0 = omega arith in rw e refl
drop_zeros (suc k) (suc n) = let e : suc n - suc k ≡ n - k = omega arith in rw e (drop_zeros k n)

pub filled : (bytes : List ℕ) → length bytes ≤ 64 → bytes ++ drop (length bytes) (zeros 64) ≡ padded bytes
unfolding padded
filled bytes h = ap (λ (xs : List ℕ). bytes ++ xs) (drop_zeros (length bytes) 64)

pub padded_length : (bytes : List ℕ) → length bytes ≤ 64 → length (padded bytes) ≡ 64
unfolding padded
padded_length bytes h = omega (arith, length-append bytes (zeros (64 - length bytes)), zeros_length (64 - length bytes))

pub padded_cut : (bytes : List ℕ) (n : ℕ) → length bytes ≡ n → take n (padded bytes) ≡ bytes
unfolding padded
padded_cut bytes n h = take_at bytes (zeros (64 - length bytes)) n h
