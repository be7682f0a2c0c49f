-- Lists whose elements are seen as something else, and parts of lists.
use Rattle.std.proofs.Common.{◌≡◌, ◌∙◌, ◌+◌, ◌-◌, ◌<◌, ◌≤◌, ◌++◌, ◌||◌, ℕ, suc, Bool, true, false, cond, List, [], ◌∷◌, length, get_or, take, drop, map, filter, count_by, refl, ap, sym, take-add, arith}
use Rattle.std.specs.List.{list_any}
use Rattle.std.proofs.lemmas.List.{drop_more, take-map, drop-map}
use Rattle.std.proofs.lemmas.List.Sums.{length-filter}

-- the elements up to one place, and then those up to another
pub joined : {X : Type 0} (xs : List X) (a b : ℕ) → a ≤ b → take a xs ++ take (b - a) (drop a xs) ≡ take b xs
joined xs a b le = let whole : a + (b - a) ≡ b = omega (arith, le) in sym (take-add a (b - a) xs) ∙ ap (λ k. take k xs) whole

-- the one element at a place
pub at_place : {X : Type 0} (xs : List X) (i n : ℕ) (d : X) → i < length xs → n ≡ 1 → take n (drop i xs) ≡ get_or xs i d ∷ []
at_place xs i n d lt one = ap (λ k. take k (drop i xs)) one ∙ ap (take 1) (drop_more xs i d lt)

-- the same elements as another list's, seen
pub range_seen : {X Y : Type 0} (f : X → Y) (xs : List X) (a b : ℕ) → map f (take (b - a) (drop a xs)) ≡ take (b - a) (drop a (map f xs))
range_seen f xs a b = sym (take-map f (b - a) (drop a xs)) ∙ ap (take (b - a)) (sym (drop-map f a xs))

-- a test finds one among elements where it finds what that is seen as
pub any_seen : {X Y : Type 0} (p : Y → Bool) (f : X → Y) (xs : List X) → list_any (λ x. p (f x)) xs ≡ list_any p (map f xs)
any_seen p f [] = refl
any_seen p f (x ∷ xs) = ap (λ b. p (f x) || b) (any_seen p f xs)

one_seen : {X Y : Type 0} (b : Bool) (x : X) (y : Y) (xs : List X) (ys : List Y) → length xs ≡ length ys → length (cond b (x ∷ xs) xs) ≡ length (cond b (y ∷ ys) ys)
one_seen true x y xs ys same = ap suc same
one_seen false x y xs ys same = same

-- as many elements pass as of what they are seen as
pub count_seen : {X Y : Type 0} (p : Y → Bool) (f : X → Y) (xs : List X) → count_by (λ x. p (f x)) xs ≡ length (filter p (map f xs))
count_seen p f xs = sym (length-filter (λ x. p (f x)) xs) ∙ kept p f xs
  where
    kept : {X Y : Type 0} (p : Y → Bool) (f : X → Y) (xs : List X) → length (filter (λ x. p (f x)) xs) ≡ length (filter p (map f xs))
    kept p f [] = refl
    kept p f (x ∷ xs) = one_seen (p (f x)) x (f x) (filter (λ y. p (f y)) xs) (filter p (map f xs)) (kept p f xs)
