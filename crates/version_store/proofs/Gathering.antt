-- Names that are given and taken away in a loop.
use Rattle.std.proofs.Common.{◌≡◌, ℕ, zero, suc, ◌+◌, ◌≤◌, ◌<◌, List, [], ◌∷◌, ◌++◌, length, map, take, get_or, Option, refl, sym, ap, subst, ◌∙◌, arith}
use Rattle.std.specs.List.{All, Contains, flat_map, sum_by}
use Rattle.std.proofs.lemmas.List.{length-map, length-take-le}
use Rattle.std.proofs.lemmas.List.Concat.{length-flat_map}
use Rattle.std.proofs.lemmas.List.Sums.{sum_by_more_le}
use Rattle.std.proofs.lemmas.List.Elements.{All-weaker, All-contains, All-contains_itself, Contains-append_left, Contains-append_right}
use Rattle.s4_types.specs.Pointer.{Place}
use Rattle.lemmas.proofs.List.{flat_map_take_next}
use Rattle.lemmas.proofs.Contains.{contains_map}
use Rattle.block_log.specs.Log.{Log, NamesAreOfData}
use Rattle.block_log.specs.Taken.{TakesPlaces}
use Rattle.version_store.specs.Store.{times_led}
use Rattle.version_store.specs.private.Below.{PlacesAddUp}
use Rattle.version_store.specs.private.Names.{Gives, TakesAway}
use Rattle.version_store.proofs.Counted.{all_held}
use Rattle.version_store.proofs.Named.{times_few, gives_join, takes_join}

-- ---- lists in pieces

pub map_joined : {X Y : Type 0} (f : X → Y) (xs ys : List X) → map f (xs ++ ys) ≡ map f xs ++ map f ys
map_joined f [] ys = refl
map_joined f (x ∷ xs) ys = ap (λ zs. f x ∷ zs) (map_joined f xs ys)

pub mapped_flat_take : {X Y Z : Type 0} (g : Y → Z) (f : X → List Y) (xs : List X) (i : ℕ) (x : X) → i < length xs → x ≡ get_or xs i x → map g (flat_map f (take (i + 1) xs)) ≡ map g (flat_map f (take i xs)) ++ map g (f x)
mapped_flat_take g f xs i x below at = ap (map g) (flat_map_take_next f xs i x below at) ∙ map_joined g (flat_map f (take i xs)) (f x)

flat_contains : {X Y : Type 0} (f : X → List Y) (xs : List X) (x : X) (y : Y) → Contains xs x → Contains (f x) y → Contains (flat_map f xs) y
flat_contains f [] x y (n, below, at) there = absurd (omega (arith, below))
flat_contains f (z ∷ xs) x y (zero, below, at) there = Contains-append_left (f z) (flat_map f xs) y (subst (λ w. Contains (f w) y) (sym at) there)
flat_contains f (z ∷ xs) x y (suc n, below, at) there = Contains-append_right (f z) (flat_map f xs) y (flat_contains f xs x y (n, omega (arith, below), at) there)

pub all_mapped_at : {X Y : Type 0} (P : Y → Type 0) (f : X → Y) (xs : List X) (i : ℕ) (x : X) → i < length xs → x ≡ get_or xs i x → All P (map f xs) → P (f x)
all_mapped_at P f xs i x below at all = All-contains P (map f xs) (f x) all (contains_map f xs x (i, below, sym at))

pub contained_map : {X Y : Type 0} (f : X → Y) (xs : List X) (y : Y) → Contains (map f xs) y → (x : X) × (Contains xs x × (y ≡ f x))
contained_map f [] y (n, below, at) = absurd (omega (arith, below))
contained_map f (x ∷ xs) y (zero, below, at) = (x, ((0, omega arith, refl), sym at))
contained_map f (x ∷ xs) y (suc n, below, at) =
    let (z, (there, is)) = contained_map f xs y (n, omega (arith, below), at) in
    (z, (Contains-append_right (x ∷ []) xs z there, is))

pub all_mapped_flat_at : {X Y Z : Type 0} (P : Z → Type 0) (g : Y → Z) (f : X → List Y) (xs : List X) (i : ℕ) (x : X) → i < length xs → x ≡ get_or xs i x → All P (map g (flat_map f xs)) → All P (map g (f x))
all_mapped_flat_at P g f xs i x below at all = All-weaker (Contains (map g (f x))) P
    (λ z there.
    let (y, (within, is)) = contained_map g (f x) z there in
    subst P (sym is) (All-contains P (map g (flat_map f xs)) (g y) all (contains_map g (flat_map f xs) y (flat_contains f xs x y (i, below, sym at) within))))
    (map g (f x)) (All-contains_itself (map g (f x)))

-- ---- room for names

pub room_more : {X : Type 0} (f : X → List (Option Place)) (xs : List X) (i : ℕ) (x : X) (n named given most : ℕ) → i < length xs → x ≡ get_or xs i x
    → n + length (flat_map f xs) < most → named ≡ given + n → given ≤ length (flat_map f (take i xs)) → named + length (f x) < most
room_more f xs i x n named given most below at room is few =
    let all : length (flat_map f xs) ≡ sum_by (λ y. length (f y)) xs = length-flat_map f xs in
    let part : length (flat_map f (take i xs)) ≡ sum_by (λ y. length (f y)) (take i xs) = length-flat_map f (take i xs) in
    let le = sum_by_more_le (λ y. length (f y)) xs i x below in
    let one : length (f x) ≡ length (f (get_or xs i x)) = ap (λ y. length (f y)) at in
    omega (arith, all, part, le, one, room, is, few)

-- the same, for pointers that are each renamed
pub mapped_room : {X : Type 0} (f : X → Option Place) (xs : List X) (i : ℕ) (q : Place) (n named most : ℕ) → i < length xs → n + length xs < most → named ≡ times_led q (map f (take i xs)) + n → named + 1 < most
mapped_room f xs i q n named most below room is =
    let few = times_few q (map f (take i xs)) in
    let mapped : length (map f (take i xs)) ≡ length (take i xs) = length-map (take i xs) f in
    let taken : length (take i xs) ≡ i = length-take-le i xs (omega (arith, below)) in
    omega (arith, few, mapped, taken, below, room, is)

pub room_mapped : {X : Type 0} (g : Option Place → Option Place) (f : X → List (Option Place)) (xs : List X) (i : ℕ) (x : X) (q : Place) (n named most : ℕ) → i < length xs → x ≡ get_or xs i x
    → n + length (flat_map f xs) < most → named ≡ times_led q (map g (flat_map f (take i xs))) + n → named + length (f x) < most
room_mapped g f xs i x q n named most below at room is =
    let few = times_few q (map g (flat_map f (take i xs))) in
    let mapped : length (map g (flat_map f (take i xs))) ≡ length (flat_map f (take i xs)) = length-map (flat_map f (take i xs)) g in
    room_more f xs i x n named (times_led q (map g (flat_map f (take i xs)))) most below at room is (omega (arith, few, mapped))

-- ---- names

pub none_given : ((log : Log) → TakesPlaces 0 log log) → (log : Log) → Gives log [] log
none_given same log = record { named = λ q. omega arith; held = refl; takes = same log }

pub none_taken_away : ((log : Log) → TakesPlaces 0 log log) → (log : Log) → NamesAreOfData log → TakesAway log [] log
none_taken_away same log rule = record { named = λ q. omega arith; held = all_held log rule; takes = same log }

pub gives_more : PlacesAddUp → (start now next : Log) (all part more : List (Option Place)) → all ≡ part ++ more → Gives start part now → Gives now more next → Gives start all next
gives_more add_up start now next all part more is given gives = subst (λ (xs : List (Option Place)). Gives start xs next) (sym is) (gives_join add_up start now next part more given gives)

pub takes_more : PlacesAddUp → (start now next : Log) (all part more : List (Option Place)) → all ≡ part ++ more → TakesAway start part now → TakesAway now more next → TakesAway start all next
takes_more add_up start now next all part more is taken takes = subst (λ (xs : List (Option Place)). TakesAway start xs next) (sym is) (takes_join add_up start now next part more taken takes)
