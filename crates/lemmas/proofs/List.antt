-- Lemmas about lists, and about what holds of each element.
use Rattle.std.proofs.Common.{◌≡◌, ℕ, zero, suc, ◌+◌, ◌<◌, All, List, [], ◌∷◌, ◌++◌, map, length, get_or, take, drop, sym, ap, subst, ◌∙◌, append_assoc, refl, arith}
use Rattle.std.specs.List.{AllByRecursion, flat_map}
use Rattle.std.proofs.lemmas.List.{take_more, drop_more, take_at, drop_at, append-nil, map-append}
use Rattle.std.proofs.lemmas.List.Elements.{All-same, All-take, All-drop}
use Rattle.std.proofs.lemmas.List.Concat.{flat_map-append}
use mathlib.Core.List.{IsPrefix}

-- ---- one element more

pub drop_next : {X : Type 0} (xs : List X) (i : ℕ) (x : X) → i < length xs → x ≡ get_or xs i x → drop i xs ≡ x ∷ drop (i + 1) xs
drop_next xs i x lt is = drop_more xs i x lt ∙ ap (λ y. y ∷ drop (i + 1) xs) (sym is)

pub map_take_next : {X Y : Type 0} (f : X → Y) (xs : List X) (i : ℕ) (x : X) → i < length xs → x ≡ get_or xs i x → map f (take (i + 1) xs) ≡ map f (take i xs) ++ f x ∷ []
map_take_next f xs i x lt is = ap (map f) (take_more xs i x lt) ∙ map-append f (take i xs) (get_or xs i x ∷ []) ∙ ap (λ y. map f (take i xs) ++ f y ∷ []) (sym is)

pub flat_map_take_next : {X Y : Type 0} (f : X → List Y) (xs : List X) (i : ℕ) (x : X) → i < length xs → x ≡ get_or xs i x → flat_map f (take (i + 1) xs) ≡ flat_map f (take i xs) ++ f x
flat_map_take_next f xs i x lt is =
    ap (flat_map f) (take_more xs i x lt) ∙ flat_map-append f (take i xs) (get_or xs i x ∷ [])
    ∙ ap (λ y. flat_map f (take i xs) ++ (f y ++ [])) (sym is) ∙ ap (λ ys. flat_map f (take i xs) ++ ys) (append-nil (f x))

-- the pieces of a list so far, and those of one element more
pub flat_map_next : {X Y : Type 0} (f : X → List Y) (xs : List X) (i : ℕ) (x : X) (start before after : List Y) → i < length xs → x ≡ get_or xs i x → before ≡ start ++ flat_map f (take i xs) → after ≡ before ++ f x
    → after ≡ start ++ flat_map f (take (i + 1) xs)
flat_map_next f xs i x start before after lt is so_far more =
    more ∙ ap (λ ys. ys ++ f x) so_far ∙ append_assoc start (flat_map f (take i xs)) (f x) ∙ ap (λ ys. start ++ ys) (sym (flat_map_take_next f xs i x lt is))

-- ---- what holds of each element

pub all_weaker : {X : Type 0} (P Q : X → Type 0) (xs : List X) → ((x : X) → P x → Q x) → AllByRecursion P xs → AllByRecursion Q xs
all_weaker P Q [] each all = tt
all_weaker P Q (x ∷ xs) each all = (each x all.0, all_weaker P Q xs each all.1)

pub all_append : {X : Type 0} (P : X → Type 0) (xs ys : List X) → AllByRecursion P xs → AllByRecursion P ys → AllByRecursion P (xs ++ ys)
all_append P [] ys all more = more
all_append P (x ∷ xs) ys all more = (all.0, all_append P xs ys all.1 more)

pub all_front : {X : Type 0} (P : X → Type 0) (xs ys : List X) → All P (xs ++ ys) → All P xs
all_front P xs ys all = All-same P xs (take (length xs) (xs ++ ys)) (sym (take_at xs ys (length xs) refl)) (All-take P (length xs) (xs ++ ys) all)

pub all_back : {X : Type 0} (P : X → Type 0) (xs ys : List X) → All P (xs ++ ys) → All P ys
all_back P xs ys all = All-same P ys _ (sym (drop_at xs ys (length xs) refl)) (All-drop P (length xs) (xs ++ ys) all)

-- what holds of all pieces holds of those of one element
pub all_of_one : {X Y : Type 0} (P : Y → Type 0) (f : X → List Y) (xs : List X) (i : ℕ) (x : X) → i < length xs → x ≡ get_or xs i x → All P (flat_map f xs) → All P (f x)
all_of_one P f [] i x lt is all = absurd (omega (arith, lt))
all_of_one P f (y ∷ xs) zero x lt is all = all_front P (f x) (flat_map f xs) (subst (λ v. All P (f v ++ flat_map f xs)) (sym is) all)
all_of_one P f (y ∷ xs) (suc i) x lt is all = all_of_one P f xs i x (omega (arith, lt)) is (all_back P (f y) (flat_map f xs) all)

-- ---- fronts

pub prefix_trans : {X : Type 0} (xs ys zs : List X) → IsPrefix xs ys → IsPrefix ys zs → IsPrefix xs zs
prefix_trans xs ys zs p q = (p.0 ++ q.0, sym (append_assoc xs p.0 q.0) ∙ (ap (λ w. w ++ q.0) p.1 ∙ q.1))
