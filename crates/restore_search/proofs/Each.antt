-- What holds of each of a list.
use Rattle.std.proofs.Common.{◌≡◌, ◌∙◌, ◌<◌, ℕ, suc, Bool, cond, List, [], ◌∷◌, ◌++◌, length, take, drop, get_or, map, filter, inl, inr, ap, sym, refl, subst}
use Rattle.std.specs.List.{AllByRecursion}
use Rattle.std.proofs.lemmas.Bool.{cases_Bool}
use Rattle.std.proofs.lemmas.List.{take-append-drop}
use Rattle.std.proofs.Math.Seq.{drop-cons}

-- it holds of one of them
pub all_one : {X : Type 0} (P : X → Type 0) (front : List X) (x : X) (back : List X) → AllByRecursion P (front ++ x ∷ back) → P x
all_one P [] x back all = all.0
all_one P (y ∷ front) x back all = all_one P front x back all.1

-- what holds of what a function gives holds of what it gives for all
pub all_of : {X Y : Type 0} (P : Y → Type 0) (f : X → Y) (xs : List X) → AllByRecursion (λ (x : X). P (f x)) xs → AllByRecursion P (map f xs)
all_of P f [] all = tt
all_of P f (x ∷ xs) all = (all.0, all_of P f xs all.1)

-- what holds of all holds of those that pass a test
pub all_passing : {X : Type 0} (P : X → Type 0) (p : X → Bool) (xs : List X) → AllByRecursion P xs → AllByRecursion P (filter p xs)
all_passing P p [] all = tt
all_passing P p (x ∷ xs) all =
    elim (cases_Bool (p x)) [
      | inl is ↦ subst (AllByRecursion P) (sym (ap (λ (t : Bool). cond t (x ∷ filter p xs) (filter p xs)) is)) (all.0, all_passing P p xs all.1)
      | inr not ↦ subst (AllByRecursion P) (sym (ap (λ (t : Bool). cond t (x ∷ filter p xs) (filter p xs)) not)) (all_passing P p xs all.1)
    ]

-- a list with one in it, through a function
pub map_one : {X Y : Type 0} (f : X → Y) (front : List X) (x : X) (back : List X) → map f (front ++ x ∷ back) ≡ map f front ++ f x ∷ map f back
map_one f [] x back = refl
map_one f (y ∷ front) x back = ap (λ ys. f y ∷ ys) (map_one f front x back)

-- a list about one of its elements
pub split_one : {X : Type 0} (xs : List X) (i : ℕ) (d : X) → i < length xs → xs ≡ take i xs ++ get_or xs i d ∷ drop (suc i) xs
split_one xs i d lt = sym (take-append-drop i xs) ∙ ap (λ ys. take i xs ++ ys) (drop-cons xs i d lt)

-- what holds of all of two lists holds of all of the first
pub all_front : {X : Type 0} (P : X → Type 0) (xs ys : List X) → AllByRecursion P (xs ++ ys) → AllByRecursion P xs
all_front P [] ys all = tt
all_front P (x ∷ xs) ys all = (all.0, all_front P xs ys all.1)
