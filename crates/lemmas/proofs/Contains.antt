-- Lemmas about the elements of a list.
use Rattle.std.proofs.Common.{◌≡◌, zero, suc, Bool, true, cond, ◌⊎◌, inl, inr, List, [], ◌∷◌, map, refl, sym, ap, subst, ◌∙◌, arith}
use Rattle.std.specs.List.{Contains, filter}
use Rattle.std.proofs.lemmas.Bool.{cases_Bool}
use Rattle.std.proofs.lemmas.List.Elements.{Contains-append_right, Contains-append_cases}

pub contains_none : {X : Type 0} (x : X) → Contains [] x → ⊥
contains_none x (k, below, at) = omega (arith, below)

pub contains_first : {X : Type 0} (x : X) (xs : List X) → Contains (x ∷ xs) x
contains_first x xs = (0, omega arith, refl)

pub contains_later : {X : Type 0} (x : X) (xs : List X) (y : X) → Contains xs y → Contains (x ∷ xs) y
contains_later x xs y there = Contains-append_right (x ∷ []) xs y there

pub contains_one : {X : Type 0} (x y : X) → Contains (x ∷ []) y → x ≡ y
contains_one x y (zero, below, at) = at
contains_one x y (suc k, below, at) = absurd (omega (arith, below))

-- an element is the first or among the others
pub contains_cases : {X : Type 0} (x : X) (xs : List X) (y : X) → Contains (x ∷ xs) y → (x ≡ y) ⊎ Contains xs y
contains_cases x xs y there = elim (Contains-append_cases (x ∷ []) xs y there) [ inl here ↦ inl (contains_one x y here) | inr later ↦ inr later ]

pub contains_map : {X Y : Type 0} (f : X → Y) (xs : List X) (x : X) → Contains xs x → Contains (map f xs) (f x)
contains_map f [] x (n, below, at) = absurd (omega (arith, below))
contains_map f (y ∷ xs) x (zero, below, at) = (0, omega arith, ap f at)
contains_map f (y ∷ xs) x (suc n, below, at) = Contains-append_right (f y ∷ []) (map f xs) (f x) (contains_map f xs x (n, omega (arith, below), at))

-- a filter keeps the elements that pass its test
pub contains_filter : {X : Type 0} (test : X → Bool) (x : X) → test x ≡ true → (xs : List X) → Contains xs x → Contains (filter test xs) x
contains_filter test x passes [] (k, below, at) = absurd (omega (arith, below))
contains_filter {X} test x passes (y ∷ ys) (zero, below, at) =
    let here : test y ≡ true = ap test at ∙ passes in
    let first : Contains (y ∷ filter test ys) x = (0, omega arith, at) in
    subst (λ (b : Bool). Contains (cond b (y ∷ filter test ys) (filter test ys)) x) (sym here) first
contains_filter {X} test x passes (y ∷ ys) (suc k, below, at) =
    let rest : Contains (filter test ys) x = contains_filter test x passes ys (k, omega (arith, below), at) in
    elim (cases_Bool (test y)) [
      | inl is ↦ subst (λ (b : Bool). Contains (cond b (y ∷ filter test ys) (filter test ys)) x) (sym is) (contains_later y (filter test ys) x rest)
      | inr is ↦ subst (λ (b : Bool). Contains (cond b (y ∷ filter test ys) (filter test ys)) x) (sym is) rest
    ]
