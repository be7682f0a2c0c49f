-- Lists written one by one.
use Rattle.std.proofs.Common.{◌≡◌, ℕ, ◌+◌, ◌<◌, List, [], ◌∷◌, ◌++◌, length, get_or, take, sym, ap, ◌∙◌}
use Rattle.std.specs.List.{flat_map, AllByRecursion}
use Rattle.std.proofs.lemmas.List.{flat_map_more, take_more}

-- one more is written
pub flat_more : {X : Type 0} (f : X → List ℕ) (head : List ℕ) (xs : List X) (i : ℕ) (d : X) → i < length xs → (head ++ flat_map f (take i xs)) ++ f (get_or xs i d) ≡ head ++ flat_map f (take (i + 1) xs)
flat_more f head xs i d lt = flat_map_more f head (take i xs) (get_or xs i d) ∙ ap (λ ys. head ++ flat_map f ys) (sym (take_more xs i d lt))

pub all_both : {X : Type 0} (P Q R : X → Type 0) → ((x : X) → P x → Q x → R x) → (xs : List X) → AllByRecursion P xs → AllByRecursion Q xs → AllByRecursion R xs
all_both P Q R both [] first second = tt
all_both P Q R both (x ∷ xs) first second = (both x first.0 second.0, all_both P Q R both xs first.1 second.1)
