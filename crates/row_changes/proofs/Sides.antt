-- The checkpoints that a row names, the older ones among them: what they tell, and that no block is in two of them.
use Rattle.std.proofs.Common.{◌≡◌, inl, inr, ℕ, zero, suc, ◌<◌, ◌≤◌, ◌||◌, Bool, true, false, List, [], ◌∷◌, ◌++◌, length, take, get_or, Option, Some, None, IfSome, MatchOption, refl, sym, ap, ◌∙◌, arith}
use Rattle.std.specs.List.{AllByRecursion}
use Rattle.std.specs.Option.{option_to_list}
use Rattle.std.proofs.lemmas.Bool.{cases_Bool, or_cases, or_from, or_left, or_right}
use Rattle.std.proofs.lemmas.List.Concat.{flat_map-append}
use Rattle.std.proofs.lemmas.List.Folds.{list_any-append}
use Rattle.s4_types.specs.Pointer.{Place}
use Rattle.block_log.specs.Log.{Stored, same_place}
use Rattle.codec.specs.Checkpoint.{CheckpointFields}
use Rattle.checkpoint.specs.Held.{checkpoint_held, checkpoint_places, places_in, places_named, of_checkpoints, is_one_of, IsInBoth}
use Rattle.journal_chain.specs.Chain.{BlockView}
use Rattle.object_map.specs.declared.map.Row.{Row}
use Rattle.object_map.specs.declared.sides.Side.{Side}
use Rattle.object_map.specs.Sides.{newest_side, sides_named, place_of}
use Rattle.time_read.specs.Rows.{IsRow, IsSide, SidesAscend, side_places, inode_of}

-- Checkpoints of an object that have a block in common are of one moment.
abbrev pub OneMoment : Type 0
OneMoment = (held : Place → Option Stored) (o : ℕ) (p r q : Place) (c d : CheckpointFields) → checkpoint_held held o p ≡ Some c → checkpoint_held held o r ≡ Some d → IsInBoth held o p r q → c.moment ≡ d.moment

-- ---- all of a list

pub all_both : (P : Side → Type 0) (xs ys : List Side) → AllByRecursion P xs → AllByRecursion P ys → AllByRecursion P (xs ++ ys)
all_both P [] ys h k = k
all_both P (x ∷ xs) ys h k = (h.0, all_both P xs ys h.1 k)

pub all_mapped : (P Q : Side → Type 0) → ((x : Side) → P x → Q x) → (xs : List Side) → AllByRecursion P xs → AllByRecursion Q xs
all_mapped P Q each [] h = tt
all_mapped P Q each (x ∷ xs) h = (each x h.0, all_mapped P Q each xs h.1)

pub at_index : (P : Side → Type 0) (xs : List Side) (i : ℕ) (d : Side) → i < length xs → AllByRecursion P xs → P (get_or xs i d)
at_index P [] i d lt h = absurd (omega (arith, lt))
at_index P (x ∷ xs) zero d lt h = h.0
at_index P (x ∷ xs) (suc i) d lt h = at_index P xs i d (omega (arith, lt)) h.1

-- those before a place are of earlier moments
pub before_index : (xs : List Side) (i : ℕ) (d : Side) → i < length xs → SidesAscend xs → AllByRecursion (λ e. e.moment < (get_or xs i d).moment) (take i xs)
before_index [] i d lt h = absurd (omega (arith, lt))
before_index (x ∷ xs) zero d lt h = tt
before_index (x ∷ xs) (suc i) d lt h = (at_index (λ later. x.moment < later.moment) xs i d (omega (arith, lt)) h.0, before_index xs i d (omega (arith, lt)) h.1)

pub first_of_all : (P : Side → Type 0) (i : ℕ) (xs : List Side) → AllByRecursion P xs → AllByRecursion P (take i xs)
first_of_all P zero xs h = tt
first_of_all P (suc i) [] h = tt
first_of_all P (suc i) (x ∷ xs) h = (h.0, first_of_all P i xs h.1)

-- ---- places

pub one_append : (front back : List Place) (q : Place) → is_one_of (front ++ back) q ≡ (is_one_of front q || is_one_of back q)
one_append front back q = list_any-append (λ p. same_place p q) front back

pub side_append : (view : BlockView) (xs ys : List Side) (q : Place) → is_one_of (side_places view (xs ++ ys)) q ≡ (is_one_of (side_places view xs) q || is_one_of (side_places view ys) q)
side_append view xs ys q =
    ap (λ (places : List Place). is_one_of places q) (flat_map-append (λ (side : Side). places_in view side.place) xs ys)
    ∙ one_append (side_places view xs) (side_places view ys) q

-- one older checkpoint, or none
pub of_one : (view : BlockView) (side : Option Side) (q : Place) → is_one_of (side_places view (option_to_list side)) q ≡ is_one_of (places_named view (place_of side)) q
of_one view None q = refl
of_one view (Some s) q = one_append (places_in view s.place) [] q ∙ or_blank (is_one_of (places_in view s.place) q)
  where
    or_blank : (b : Bool) → (b || false) ≡ b
    or_blank true = refl
    or_blank false = refl

-- a block of a checkpoint that a row names is one of those that the row names
pub named_all : (view : BlockView) (sides : List Side) (c : Option Place) (m : ℕ) (q : Place) → is_one_of (places_named view c ++ side_places view sides) q ≡ true → is_one_of (side_places view (sides ++ newest_side c m)) q ≡ true
named_all view sides c m q is =
    side_append view sides (newest_side c m) q
    ∙ elim (or_cases (is_one_of (places_named view c) q) (is_one_of (side_places view sides) q) (sym (one_append (places_named view c) (side_places view sides) q) ∙ is)) [
      | inl new ↦ or_right (is_one_of (side_places view sides) q) (is_one_of (side_places view (newest_side c m)) q) (newest_places c new)
      | inr old ↦ or_left (is_one_of (side_places view sides) q) (is_one_of (side_places view (newest_side c m)) q) old
    ]
  where
    newest_places : (c : Option Place) → is_one_of (places_named view c) q ≡ true → is_one_of (side_places view (newest_side c m)) q ≡ true
    newest_places None is = is
    newest_places (Some p) is = one_append (places_in view p) [] q ∙ or_left (is_one_of (places_in view p) q) false is

-- ---- what they tell

-- a checkpoint that a row names tells the inode of its moment
abbrev pub IsTold : (Place → Option Stored) → ℕ → Row → Side → Type 0
IsTold held o row side = checkpoint_held held o side.place ≡ Some (record { object = o; moment = side.moment; inode = inode_of held o row side.moment })

newest_told : (N : Type 0) (held : Place → Option Stored) (o : ℕ) (row : Row) (c : Option Place) (m : ℕ) → MatchOption c N (λ p. checkpoint_held held o p ≡ Some (record { object = o; moment = m; inode = inode_of held o row m })) → AllByRecursion (IsTold held o row) (newest_side c m)
newest_told N held o row None m h = tt
newest_told N held o row (Some p) m h = (h, tt)

pub sides_told : (held : Place → Option Stored) (o : ℕ) (row : Row) → IsRow held o row → AllByRecursion (IsTold held o row) row.sides
sides_told held o row r = all_mapped (IsSide held o row) (IsTold held o row) (λ side is. is.told) row.sides r.sides

pub sides_older : (held : Place → Option Stored) (o : ℕ) (row : Row) → IsRow held o row → AllByRecursion (λ s. s.moment < row.checkpoint_moment) row.sides
sides_older held o row r = all_mapped (IsSide held o row) (λ s. s.moment < row.checkpoint_moment) (λ side is. is.older) row.sides r.sides

pub each_side_decodes : (held : Place → Option Stored) (o : ℕ) (row : Row) → IsRow held o row → AllByRecursion (IsTold held o row) (sides_named row)
each_side_decodes held o row r =
    all_both (IsTold held o row) row.sides (newest_side row.checkpoint row.checkpoint_moment) (sides_told held o row r)
    (newest_told (row.checkpoint_moment ≡ 0) held o row row.checkpoint row.checkpoint_moment r.checkpoint)

newest_after : (s : Side) (c : Option Place) (m : ℕ) → s.moment < m → AllByRecursion (λ later. s.moment < later.moment) (newest_side c m)
newest_after s None m lt = tt
newest_after s (Some p) m lt = (lt, tt)

newest_alone : (c : Option Place) (m : ℕ) → SidesAscend (newest_side c m)
newest_alone None m = tt
newest_alone (Some p) m = (tt, tt)

pub ascend_all : (sides : List Side) (c : Option Place) (m : ℕ) → SidesAscend sides → AllByRecursion (λ s. s.moment < m) sides → SidesAscend (sides ++ newest_side c m)
ascend_all [] c m ascend older = newest_alone c m
ascend_all (s ∷ sides) c m ascend older =
    (all_both (λ later. s.moment < later.moment) sides (newest_side c m) ascend.0 (newest_after s c m older.0), ascend_all sides c m ascend.1 older.1)

-- where a newer moment is known, all are before it
pub all_before : (sides : List Side) (c : Option Place) (t m : ℕ) → AllByRecursion (λ s. s.moment < t) sides → t ≤ m → IfSome c (λ _. t < m) → AllByRecursion (λ s. s.moment < m) (sides ++ newest_side c t)
all_before sides c t m older le newer = all_both (λ s. s.moment < m) sides (newest_side c t) (all_mapped (λ s. s.moment < t) (λ s. s.moment < m) (λ s lt. omega (arith, lt, le)) sides older) (newest_before c newer)
  where
    newest_before : (c : Option Place) → IfSome c (λ _. t < m) → AllByRecursion (λ s. s.moment < m) (newest_side c t)
    newest_before None newer = tt
    newest_before (Some p) newer = (newer, tt)

-- ---- no block is in two

-- a block of a checkpoint is none of checkpoints of earlier moments
pub beside_earlier : OneMoment → (held : Place → Option Stored) (o : ℕ) (row : Row) (p : Place) (c : CheckpointFields) → checkpoint_held held o p ≡ Some c → (sides : List Side) → AllByRecursion (IsTold held o row) sides → AllByRecursion (λ s. s.moment < c.moment) sides
    → (q : Place) → is_one_of (checkpoint_places held o p) q ≡ true → is_one_of (side_places (of_checkpoints o held) sides) q ≡ false
beside_earlier law held o row p c told [] all earlier q is = refl
beside_earlier law held o row p c told (s ∷ sides) all earlier q is =
    let view = of_checkpoints o held in
    let here : is_one_of (places_in view s.place) q ≡ false = elim (cases_Bool (is_one_of (places_in view s.place) q)) [
      | inl both ↦
          let same : s.moment ≡ c.moment = law held o s.place p q (record { object = o; moment = s.moment; inode = inode_of held o row s.moment }) c all.0 told (both, is) in
          let lt : s.moment < c.moment = earlier.0 in
          absurd (omega (arith, same, lt))
      | inr beside ↦ beside
    ] in
    one_append (places_in view s.place) (side_places view sides) q
    ∙ or_from (is_one_of (places_in view s.place) q) (is_one_of (side_places view sides) q) here (beside_earlier law held o row p c told sides all.1 earlier.1 q is)
