-- Beginnings of one list.
use Rattle.std.proofs.Common.{◌≡◌, ◌<◌, ◌≤◌, ℕ, zero, suc, List, [], ◌∷◌, ◌++◌, length, sym, ◌∙◌, ap, subst, refl, arith}
use mathlib.Core.Option.{some, some-ne-none}
use mathlib.Core.List.{IsPrefix}
use lib.ListN.{get_elem?}

at_longer : {A : Type 0} (xs more : List A) (i : ℕ) (a : A) → get_elem? xs i ≡ some a → get_elem? (xs ++ more) i ≡ some a
at_longer [] more i a at = absurd (some-ne-none a (sym at))
at_longer (x ∷ xs) more zero a at = at
at_longer (x ∷ xs) more (suc i) a at = at_longer xs more i a at

-- a place within a list is the same place of a longer one
at_shorter : {A : Type 0} (xs more : List A) (i : ℕ) → i < length xs → get_elem? (xs ++ more) i ≡ get_elem? xs i
at_shorter [] more i lt = absurd (omega (arith, lt))
at_shorter (x ∷ xs) more zero lt = refl
at_shorter (x ∷ xs) more (suc i) lt = at_shorter xs more i (omega (arith, lt))

-- what is at a place of one beginning is there in another one that is long enough
pub in_both : {A : Type 0} (all one other : List A) (i : ℕ) (a : A) → IsPrefix one all → IsPrefix other all → i < length other → get_elem? one i ≡ some a → get_elem? other i ≡ some a
in_both {A} all one other i a p q lt at =
    let in_all : get_elem? all i ≡ some a = subst (λ (l : List A). get_elem? l i ≡ some a) p.1 (at_longer one p.0 i a at) in
    sym (at_shorter other q.0 i lt) ∙ subst (λ (l : List A). get_elem? l i ≡ some a) (sym q.1) in_all

abbrev tail_of : {A : Type 0} → List A → List A
tail_of [] = []
tail_of (x ∷ xs) = xs

abbrev head_or : {A : Type 0} → A → List A → A
head_or a [] = a
head_or a (x ∷ xs) = x

shorter_begins : {A : Type 0} (xs ys more rest : List A) → xs ++ more ≡ ys ++ rest → length xs ≤ length ys → IsPrefix xs ys
shorter_begins [] ys more rest same le = (ys, refl)
shorter_begins (x ∷ xs) [] more rest same le = absurd (omega (arith, le))
shorter_begins {A} (x ∷ xs) (y ∷ ys) more rest same le =
    let others = shorter_begins xs ys more rest (ap tail_of same) (omega (arith, le)) in
    (others.0, ap (λ (l : List A). x ∷ l) others.1 ∙ ap (λ (a : A). a ∷ ys) (ap (head_or x) same))

-- of two beginnings of one list the one that isn't longer begins the other
pub begins_longer : {A : Type 0} (all one other : List A) → IsPrefix one all → IsPrefix other all → length one ≤ length other → IsPrefix one other
begins_longer all one other p q le = shorter_begins one other p.0 q.0 (p.1 ∙ sym q.1) le
