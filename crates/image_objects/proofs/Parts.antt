-- What holds of each element of a list that is gone through, and of each element of its elements' parts.
use Rattle.std.proofs.Common.{◌≡◌, ℕ, ◌+◌, ◌<◌, ◌≤◌, List, [], ◌++◌, length, take, get_or, sym, ap, subst}
use Rattle.std.specs.List.{All, flat_map}
use Rattle.std.proofs.lemmas.List.{take_all}
use Rattle.std.proofs.lemmas.List.Elements.{All-append, All-more, All-get_or, All-same}
use Rattle.lemmas.proofs.List.{flat_map_take_next}

pub one_more : {A : Type 0} (P : A → Type 0) (xs : List A) (i : ℕ) (x : A) → i < length xs → x ≡ get_or xs i x → All P (take i xs) → P x → All P (take (i + 1) xs)
one_more P xs i x lt is before here = All-more P xs i x lt before (subst P is here)

pub all_taken : {A : Type 0} (P : A → Type 0) (xs : List A) (i : ℕ) → length xs ≤ i → All P (take i xs) → All P xs
all_taken P xs i end all = All-same P xs (take i xs) (sym (take_all i xs end)) all

pub each_there : {A : Type 0} (P : A → Type 0) (xs : List A) (i : ℕ) (x : A) → i < length xs → x ≡ get_or xs i x → All P xs → P x
each_there P xs i x lt is all = subst P (sym is) (All-get_or P xs i x lt all)

-- ---- the parts of a list's elements

pub part_more : {X A : Type 0} (P : A → Type 0) (f : X → List A) (xs : List X) (i : ℕ) (x : X) → i < length xs → x ≡ get_or xs i x → All P (flat_map f (take i xs)) → All P (f x) → All P (flat_map f (take (i + 1) xs))
part_more P f xs i x lt is before here =
    All-same P (flat_map f (take (i + 1) xs)) (flat_map f (take i xs) ++ f x) (flat_map_take_next f xs i x lt is) (All-append P (flat_map f (take i xs)) (f x) before here)

pub parts_taken : {X A : Type 0} (P : A → Type 0) (f : X → List A) (xs : List X) (i : ℕ) → length xs ≤ i → All P (flat_map f (take i xs)) → All P (flat_map f xs)
parts_taken P f xs i end all = All-same P (flat_map f xs) (flat_map f (take i xs)) (ap (flat_map f) (sym (take_all i xs end))) all
