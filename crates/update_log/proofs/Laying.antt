-- What is laid out in sectors is read again.
use Rattle.std.proofs.Common.{◌≡◌, ℕ, zero, suc, ◌+◌, ◌-◌, ◌*◌, ◌<◌, List, [], ◌∷◌, ◌++◌, length, take, drop, slice_index, refl, sym, ap, ◌∙◌, arith, append_assoc, length-append, length-drop}
use Rattle.std.proofs.lemmas.List.{drop_at, take_at, drop-take, length-take, take-append-drop, get_or-drop}
use Rattle.update_log.specs.Sectors.{further, further_in}

-- ---- one sector more

pub laid_more : (count counter : ℕ) (out pushed after rest sector others whole : List ℕ) → counter < count → pushed ≡ out ++ 2 ∷ [] → after ≡ pushed ++ sector → sector ≡ take 511 rest → others ≡ drop 511 rest
    → out ++ further (count - counter) rest ≡ whole → after ++ further (count - (counter + 1)) others ≡ whole
laid_more count counter out pushed after rest sector others whole lt p a s o is =
    let n = count - (counter + 1) in
    let e : count - counter ≡ suc n = omega (arith, lt) in
    let so : after ++ further n others ≡ ((out ++ 2 ∷ []) ++ take 511 rest) ++ further n (drop 511 rest) = rw (a, p, s, o) refl in
    so ∙ append_assoc (out ++ 2 ∷ []) (take 511 rest) (further n (drop 511 rest))
    ∙ append_assoc out (2 ∷ []) (take 511 rest ++ further n (drop 511 rest))
    ∙ ap (λ (k : ℕ). out ++ further k rest) (sym e) ∙ is

pub gathered_more : (count counter : ℕ) (out after rest sector part others whole : List ℕ) → counter < count → after ≡ out ++ part → part ≡ drop 1 sector → sector ≡ take 512 rest → others ≡ drop 512 rest
    → out ++ further_in (count - counter) rest ≡ whole → after ++ further_in (count - (counter + 1)) others ≡ whole
gathered_more count counter out after rest sector part others whole lt a p s o is =
    let n = count - (counter + 1) in
    let e : count - counter ≡ suc n = omega (arith, lt) in
    let part_is : part ≡ take 511 (drop 1 rest) = p ∙ ap (λ (x : List ℕ). drop 1 x) s ∙ drop-take 1 511 rest in
    let so : after ++ further_in n others ≡ (out ++ take 511 (drop 1 rest)) ++ further_in n (drop 512 rest) = rw (a, part_is, o) refl in
    so ∙ append_assoc out (take 511 (drop 1 rest)) (further_in n (drop 512 rest)) ∙ ap (λ (k : ℕ). out ++ further_in k rest) (sym e) ∙ is

-- ---- all of them

front_of : (c : List ℕ) (n : ℕ) → length c ≡ 511 * suc n → length (take 511 c) ≡ 511
front_of c n e = omega (arith, e, length-take 511 c)

rest_of : (c : List ℕ) (n : ℕ) → length c ≡ 511 * suc n → length (drop 511 c) ≡ 511 * n
rest_of c n e = omega (arith, e, length-drop 511 c)

pub further_length : (n : ℕ) (c : List ℕ) → length c ≡ 511 * n → length (further n c) ≡ 512 * n
further_length zero c e = omega arith
further_length (suc n) c e =
    omega (arith, front_of c n e, length-append (take 511 c) (further n (drop 511 c)), further_length n (drop 511 c) (rest_of c n e))

after_first : (n : ℕ) (c rest : List ℕ) → length c ≡ 511 * suc n → drop 512 (further (suc n) c ++ rest) ≡ further n (drop 511 c) ++ rest
after_first n c rest e =
    ap (λ (x : List ℕ). drop 511 x) (append_assoc (take 511 c) (further n (drop 511 c)) rest) ∙ drop_at (take 511 c) (further n (drop 511 c) ++ rest) 511 (front_of c n e)

pub further_again : (n : ℕ) (c rest : List ℕ) → length c ≡ 511 * n → further_in n (further n c ++ rest) ≡ c
further_again zero [] rest e = refl
further_again zero (b ∷ c) rest e = absurd (omega (arith, e))
further_again (suc n) c rest e =
    let first : take 511 (drop 1 (further (suc n) c ++ rest)) ≡ take 511 c =
    ap (λ (x : List ℕ). take 511 x) (append_assoc (take 511 c) (further n (drop 511 c)) rest) ∙ take_at (take 511 c) (further n (drop 511 c) ++ rest) 511 (front_of c n e) in
    let others : further_in n (drop 512 (further (suc n) c ++ rest)) ≡ drop 511 c =
    ap (λ (x : List ℕ). further_in n x) (after_first n c rest e) ∙ further_again n (drop 511 c) rest (rest_of c n e) in
    ap (λ (x : List ℕ). x ++ further_in n (drop 512 (further (suc n) c ++ rest))) first
    ∙ ap (λ (x : List ℕ). take 511 c ++ x) others ∙ take-append-drop 511 c

pub further_marks : (n k : ℕ) (c : List ℕ) → length c ≡ 511 * n → k < n → slice_index (further n c) (512 * k) ≡ 2
further_marks zero k c e lt = absurd (omega (arith, lt))
further_marks (suc n) zero c e lt = let z : 512 * 0 ≡ 0 = omega arith in ap (λ (i : ℕ). slice_index (further (suc n) c) i) z
further_marks (suc n) (suc k) c e lt =
    let at : 512 * suc k ≡ 512 + 512 * k = omega arith in
    let rest : drop 512 (further (suc n) c) ≡ further n (drop 511 c) = drop_at (take 511 c) (further n (drop 511 c)) 511 (front_of c n e) in
    ap (λ (i : ℕ). slice_index (further (suc n) c) i) at ∙ sym (get_or-drop 512 (further (suc n) c) (512 * k) 0)
    ∙ ap (λ (x : List ℕ). slice_index x (512 * k)) rest ∙ further_marks n k (drop 511 c) (rest_of c n e) (omega (arith, lt))
