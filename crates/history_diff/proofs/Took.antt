-- What the elements of a list give, one more at a time.
use Rattle.std.proofs.Common.{◌≡◌, ◌+◌, ◌<◌, ◌++◌, ◌∙◌, ℕ, List, ◌∷◌, [], length, get_or, take, map, ap, sym}
use Rattle.std.specs.List.{flat_map}
use Rattle.std.proofs.lemmas.List.{take_more, map_push, map_more}
use Rattle.history_view.proofs.Fronts.{flat_more}

-- the next element of a list gives what comes after what the elements so far give
pub flat_took : {X Y : Type 0} (f : X → List Y) (xs : List X) (i : ℕ) (x : X) → i < length xs → x ≡ get_or xs i x → flat_map f (take i xs) ++ f x ≡ flat_map f (take (i + 1) xs)
flat_took f xs i x lt is = ap (λ y. flat_map f (take i xs) ++ f y) is ∙ sym (flat_more f (take i xs) (get_or xs i x)) ∙ ap (flat_map f) (sym (take_more xs i x lt))

-- one more of the elements of a list is seen as another list's
pub seen_more : {X Y D : Type 0} (v : X → D) (f : Y → D) (items after : List X) (x : X) (ys : List Y) (i : ℕ) (y : Y) → i < length ys → y ≡ get_or ys i y → map v items ≡ map f (take i ys) → after ≡ items ++ x ∷ [] → v x ≡ f y
    → map v after ≡ map f (take (i + 1) ys)
seen_more v f items after x ys i y lt is so_far grown gives =
    ap (map v) grown ∙ map_push v items x ∙ ap (λ l. l ++ v x ∷ []) so_far ∙ ap (λ d. map f (take i ys) ++ d ∷ []) (gives ∙ ap f is) ∙ sym (map_more f ys i y lt)
