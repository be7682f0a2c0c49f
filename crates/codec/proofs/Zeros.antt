-- Reading zeros one after the other, as a loop does.
use Rattle.std.proofs.Common.{◌≡◌, ℕ, zero, suc, ◌-◌, ◌+◌, ◌≤◌, ◌<◌, false, cond, eqb, List, [], ◌∷◌, Some, None, refl, ap, ◌∙◌, ◌≢◌, ◌++◌, length, append_assoc, add-one, arith}
use Rattle.std.proofs.lemmas.Bool.{ne_eqb}
use Rattle.std.proofs.lemmas.List.{append-nil, length-replicate}
use Rattle.std.proofs.lemmas.Option.{same_Some}
use Rattle.codec.specs.Fields.{byte_at, zeros, zeros_at}

step : (n : ℕ) (bytes after : List ℕ) (b : ℕ) → byte_at bytes ≡ Some (b, after) → zeros_at (suc n) bytes ≡ cond (eqb b 0) (zeros_at n after) None
unfolding zeros_at
step n [] after b e = absurd cc
step n (x ∷ xs) after b e =
    let same : (x, xs) ≡ (b, after) = same_Some _ _ e in
    let p : x ≡ b = ap (λ (y : ℕ × List ℕ). y.0) same in
    let q : xs ≡ after = ap (λ (y : ℕ × List ℕ). y.1) same in
    rw (p, q) refl

stop : (n : ℕ) (bytes : List ℕ) → byte_at bytes ≡ None → zeros_at (suc n) bytes ≡ None
unfolding zeros_at
stop n [] e = refl
stop n (x ∷ xs) e = absurd cc

pub zeros_step : (count i : ℕ) (bytes after : List ℕ) (b : ℕ) → i < count → byte_at bytes ≡ Some (b, after) → zeros_at (count - i) bytes ≡ cond (eqb b 0) (zeros_at (count - (i + 1)) after) None
zeros_step count i bytes after b lt e = let k : count - i ≡ suc (count - (i + 1)) = omega arith in rw k (step (count - (i + 1)) bytes after b e)

pub zeros_stop : (count i : ℕ) (bytes : List ℕ) → i < count → byte_at bytes ≡ None → zeros_at (count - i) bytes ≡ None
zeros_stop count i bytes lt e = let k : count - i ≡ suc (count - (i + 1)) = omega arith in rw k (stop (count - (i + 1)) bytes e)

pub zeros_end : (count i : ℕ) (bytes : List ℕ) → count ≤ i → zeros_at (count - i) bytes ≡ Some (tt, bytes)
unfolding zeros_at
zeros_end count i bytes le = let k : count - i ≡ 0 = omega arith in rw k refl

pub zeros_on : (count i : ℕ) (bytes after : List ℕ) (b : ℕ) → i < count → byte_at bytes ≡ Some (b, after) → b ≡ 0 → zeros_at (count - i) bytes ≡ zeros_at (count - (i + 1)) after
zeros_on count i bytes after b lt e nought = zeros_step count i bytes after b lt e ∙ rw nought refl

pub zeros_bad : (count i : ℕ) (bytes after : List ℕ) (b : ℕ) → i < count → byte_at bytes ≡ Some (b, after) → b ≢ 0 → zeros_at (count - i) bytes ≡ None
zeros_bad count i bytes after b lt e other = let no : eqb b 0 ≡ false = ne_eqb b 0 other in zeros_step count i bytes after b lt e ∙ rw no refl

pub zero_more : (n : ℕ) → zeros n ++ 0 ∷ [] ≡ zeros (suc n)
unfolding zeros
zero_more zero = refl
zero_more (suc n) = ap (λ (xs : List ℕ). 0 ∷ xs) (zero_more n)

-- one zero more
pub zeros_push : (front : List ℕ) (n : ℕ) → (front ++ zeros n) ++ 0 ∷ [] ≡ front ++ zeros (n + 1)
zeros_push front n = append_assoc front (zeros n) (0 ∷ []) ∙ ap (λ (xs : List ℕ). front ++ xs) (rw add-one (zero_more n))

pub zeros_none : (front : List ℕ) → front ++ zeros 0 ≡ front
unfolding zeros
zeros_none front = append-nil front

pub zeros_length : (n : ℕ) → length (zeros n) ≡ n
unfolding zeros
zeros_length n = length-replicate n 0
