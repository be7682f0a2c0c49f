-- How many bytes aren't zero.
use Rattle.std.proofs.Common.{◌≡◌, ◌⊎◌, inl, inr, ℕ, zero, suc, ◌+◌, ◌≤◌, ◌==◌, if◌then◌else◌, List, [], ◌∷◌, ◌++◌, length, take, drop, replicate, slice_index, refl, sym, ap, ◌∙◌, arith}
use Rattle.std.proofs.lemmas.List.{take-append-drop}
use Rattle.update_log.specs.Records.{nonzeros}

-- one for a byte that isn't zero
abbrev pub bit : ℕ → ℕ
bit b = if b == 0 then 0 else 1

pub bit_falls : (a b : ℕ) → (a ≡ 0) ⊎ (a ≡ b) → bit a ≤ bit b
bit_falls a b (inl z) = rw z (omega arith)
bit_falls a b (inr e) = rw e (omega arith)

pub bit_more : (b : ℕ) → bit (suc b) ≡ 1
bit_more b = grind arith

-- a byte that was lost is fewer
pub bit_same : (a b : ℕ) → (a ≡ 0) ⊎ (a ≡ b) → bit a ≡ bit b → a ≡ b
bit_same a b (inr e) s = e
bit_same zero zero (inl z) s = refl
bit_same zero (suc b) (inl z) s = absurd (omega (arith, s, bit_more b))
bit_same (suc a) b (inl z) s = absurd (omega (arith, z))

pub nonzeros_join : (xs ys : List ℕ) → nonzeros (xs ++ ys) ≡ nonzeros xs + nonzeros ys
nonzeros_join [] ys = omega arith
nonzeros_join (x ∷ xs) ys = omega (arith, nonzeros_join xs ys)

pub nonzeros_few : (xs : List ℕ) → nonzeros xs ≤ length xs
nonzeros_few [] = omega arith
nonzeros_few (zero ∷ xs) = omega (arith, nonzeros_few xs)
nonzeros_few (suc x ∷ xs) = omega (arith, bit_more x, nonzeros_few xs)

pub nonzeros_zeros : (n : ℕ) → nonzeros (replicate n 0) ≡ 0
nonzeros_zeros zero = refl
nonzeros_zeros (suc n) = omega (arith, nonzeros_zeros n)

pub nonzeros_front : (m n : ℕ) (xs : List ℕ) → m ≤ n → nonzeros (take m xs) ≤ nonzeros (take n xs)
nonzeros_front zero n xs le = omega arith
nonzeros_front (suc m) zero xs le = absurd (omega (arith, le))
nonzeros_front (suc m) (suc n) [] le = omega arith
nonzeros_front (suc m) (suc n) (x ∷ xs) le = omega (arith, nonzeros_front m n xs (omega (arith, le)))

pub nonzeros_fall : (xs ys : List ℕ) → length xs ≡ length ys → ((i : ℕ) → (slice_index xs i ≡ 0) ⊎ (slice_index xs i ≡ slice_index ys i)) → nonzeros xs ≤ nonzeros ys
nonzeros_fall [] [] l m = omega arith
nonzeros_fall [] (y ∷ ys) l m = absurd (omega (arith, l))
nonzeros_fall (x ∷ xs) [] l m = absurd (omega (arith, l))
nonzeros_fall (x ∷ xs) (y ∷ ys) l m = omega (arith, bit_falls x y (m 0), nonzeros_fall xs ys (omega (arith, l)) (λ i. m (suc i)))

pub nonzeros_same : (xs ys : List ℕ) → length xs ≡ length ys → ((i : ℕ) → (slice_index xs i ≡ 0) ⊎ (slice_index xs i ≡ slice_index ys i)) → nonzeros xs ≡ nonzeros ys → xs ≡ ys
nonzeros_same [] [] l m s = refl
nonzeros_same [] (y ∷ ys) l m s = absurd (omega (arith, l))
nonzeros_same (x ∷ xs) [] l m s = absurd (omega (arith, l))
nonzeros_same (x ∷ xs) (y ∷ ys) l m s =
    let rest = nonzeros_fall xs ys (omega (arith, l)) (λ i. m (suc i)) in
    let here = bit_falls x y (m 0) in
    let head : x ≡ y = bit_same x y (m 0) (omega (arith, s, rest, here)) in
    let tail : xs ≡ ys = nonzeros_same xs ys (omega (arith, l)) (λ i. m (suc i)) (omega (arith, s, rest, here)) in
    ap (λ (h : ℕ). h ∷ xs) head ∙ ap (λ (t : List ℕ). y ∷ t) tail

parts : (n : ℕ) (xs : List ℕ) → nonzeros xs ≡ nonzeros (take n xs) + nonzeros (drop n xs)
parts n xs = ap nonzeros (sym (take-append-drop n xs)) ∙ nonzeros_join (take n xs) (drop n xs)

pub nonzeros_within : (n : ℕ) (xs : List ℕ) → nonzeros (take n xs) ≤ nonzeros xs
nonzeros_within n xs = omega (arith, parts n xs)

pub nonzeros_after : (n : ℕ) (xs : List ℕ) → nonzeros (drop n xs) ≤ nonzeros xs
nonzeros_after n xs = omega (arith, parts n xs)
