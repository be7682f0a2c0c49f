-- Counting and adding up over the numbers of a range.
use Rattle.std.proofs.Common.{◌≡◌, ℕ, zero, suc, Bool, ◌+◌, cond, [], ◌∷◌, ◌++◌, count_by, sum_by, zero-add, refl, ap, ◌∙◌, arith}
use Rattle.std.specs.List.{range_with_len}
use Rattle.std.proofs.lemmas.List.Sums.{sum_by-append, sum_by-cons}

pub range_push : (a n : ℕ) → range_with_len a (suc n) ≡ range_with_len a n ++ (a + n) ∷ []
range_push a zero = ap (λ x. x ∷ []) (omega arith)
range_push a (suc n) = ap (λ xs. a ∷ xs) (range_push (a + 1) n ∙ ap (λ x. range_with_len (a + 1) n ++ x ∷ []) (omega arith))

-- how many numbers below n pass
abbrev pub below : (ℕ → Bool) → ℕ → ℕ
below p zero = 0
below p (suc n) = below p n + cond (p n) 1 0

-- the sum over one more number
pub sum_by_range_more : (f : ℕ → ℕ) (n : ℕ) → sum_by f (range_with_len 0 (suc n)) ≡ sum_by f (range_with_len 0 n) + f n
sum_by_range_more f n =
    ap (λ xs. sum_by f xs) (range_push 0 n)
    ∙ sum_by-append f (range_with_len 0 n) ((0 + n) ∷ [])
    ∙ ap (λ k. sum_by f (range_with_len 0 n) + k) (zero-add (f (0 + n)) ∙ ap f (zero-add n))

-- the count over a range
pub count_by_range : (p : ℕ → Bool) (n : ℕ) → count_by p (range_with_len 0 n) ≡ below p n
count_by_range p zero = refl
count_by_range p (suc n) = sum_by_range_more (λ x. cond (p x) 1 0) n ∙ ap (λ k. k + cond (p n) 1 0) (count_by_range p n)

-- 1 where a test holds
abbrev pub tally : Bool → ℕ
tally b = cond b 1 0

-- a count without its first number, and without its last
pub count_first : (p : ℕ → Bool) (a n : ℕ) → count_by p (range_with_len a (suc n)) ≡ tally (p a) + count_by p (range_with_len (a + 1) n)
count_first p a n = sum_by-cons (λ (x : ℕ). tally (p x)) a (range_with_len (a + 1) n)

pub count_last : (p : ℕ → Bool) (a n : ℕ) → count_by p (range_with_len a (suc n)) ≡ count_by p (range_with_len a n) + tally (p (a + n))
count_last p a zero =
    let here : tally (p (a + 0)) ≡ tally (p a) = ap (λ (m : ℕ). tally (p m)) (omega arith) in
    omega (arith, count_first p a 0, here)
count_last p a (suc n) =
    let here : tally (p (a + 1 + n)) ≡ tally (p (a + suc n)) = ap (λ (m : ℕ). tally (p m)) (omega arith) in
    omega (arith, count_first p a (suc n), count_last p (a + 1) n, count_first p a n, here)
