-- How often rows name places, and that a log counts just that.
use Rattle.std.proofs.Common.{◌≡◌, ◌⊎◌, inl, inr, ℕ, zero, suc, ◌+◌, ◌<◌, ◌≤◌, Bool, true, false, cond, ltb, ◌==◌, ◌&&◌, ◌||◌, List, [], ◌∷◌, ◌++◌, count_by, Option, Some, None, IsSome, is_some, option_map, MatchOption, refl, sym, ap, subst, ◌∙◌, arith}
use Rattle.std.specs.List.{AllByRecursion, flat_map, list_any, range_with_len, sum_by}
use Rattle.std.specs.Option.{option_to_list}
use Rattle.std.proofs.lemmas.Bool.{cases_Bool, cases_eq, cases_lt, cond-true, cond-false, lt-ltb, ltb-true, ltb-false, eq-eqb, ne_eqb, false≢true}
use Rattle.std.proofs.lemmas.List.Folds.{list_any-append}
use Rattle.std.proofs.lemmas.List.Sums.{sum_by-cons, sum_by-append}
use Rattle.s4_types.specs.Pointer.{Place}
use Rattle.block_log.specs.declared.kinds.BlockKind.{BlockKind}
use Rattle.block_log.specs.declared.kinds.BlockKind.TheVariants.{Journal, Checkpoint, Data, Pointers}
use Rattle.block_log.specs.Log.{Stored, of_kind, seen_as, same_kind, same_place}
use Rattle.codec.specs.Fields.{bit}
use Rattle.codec.specs.Checkpoint.{CheckpointFields}
use Rattle.journal_chain.specs.Chain.{times, chain_places}
use Rattle.checkpoint.specs.Held.{or_others, begun_by, seen_of, checkpoint_held, checkpoint_places, of_checkpoints, places_in, places_named as checkpoint_named, is_one_of, IsInBoth}
use Rattle.checkpoint.proofs.OwnBlocks.{none_seen}
use Rattle.object_map.specs.declared.map.Row.{Row}
use Rattle.object_map.specs.declared.sides.Side.{Side}
use Rattle.object_map.specs.Rows.{row_of}
use Rattle.block_log.proofs.Places.{same_place_turned}
use Rattle.time_read.specs.Rows.{IsRow, IsSide, SidesAscend, inode_of, all_places_of, side_places}
use Rattle.segment_table.specs.Counts.{held_names, log_names}
use Rattle.version_store.specs.Store.{StoreFields, IsStore, IsObject, named_of, pointers_named, times_led, is_at}
use Rattle.version_store.specs.Tallies.{places_named, times_at, times_in, times_named, named_below, NoRowFrom, CountsAreOfRows}
use Rattle.version_store.specs.private.Below.{OnePlace, CheckpointsHaveBlocks}
use Rattle.version_store.proofs.Naming.{checkpoints_there}

-- the blocks of a checkpoint are at places apart
abbrev pub CheckpointsStandOnce : Type 0
CheckpointsStandOnce = (held : Place → Option Stored) (o : ℕ) (p q : Place) → IsSome (checkpoint_held held o p) → times_at q (checkpoint_places held o p) ≤ 1

-- checkpoints of two moments have no block in common
abbrev pub CheckpointsShareNone : Type 0
CheckpointsShareNone = (held : Place → Option Stored) (o : ℕ) (p r q : Place) (c d : CheckpointFields) → checkpoint_held held o p ≡ Some c → checkpoint_held held o r ≡ Some d → IsInBoth held o p r q → c.moment ≡ d.moment

-- ---- sums

-- none counts
sum_none : (f : ℕ → ℕ) (first count : ℕ) → ((q : ℕ) → first ≤ q → q < first + count → f q ≡ 0) → sum_by f (range_with_len first count) ≡ 0
sum_none f first zero none = refl
sum_none f first (suc count) none =
    let here = none first (omega arith) (omega arith) in
    let rest = sum_none f (first + 1) count (λ q low high. none q (omega (arith, low)) (omega (arith, high))) in
    sum_by-cons f first (range_with_len (first + 1) count) ∙ omega (arith, here, rest)

-- one alone counts
sum_single : (f : ℕ → ℕ) (first count o : ℕ) → ((q : ℕ) → (q ≡ o → ⊥) → f q ≡ 0) → first ≤ o → o < first + count → sum_by f (range_with_len first count) ≡ f o
sum_single f first zero o others low high = absurd (omega (arith, low, high))
sum_single f first (suc count) o others low high = sum_by-cons f first (range_with_len (first + 1) count) ∙ elim (cases_eq first o) [
  | inl is ↦
      let rest = sum_none f (first + 1) count (λ q le less. others q (λ (e : q ≡ o). omega (arith, e, is, le))) in
      let here : f first ≡ f o = ap f is in
      omega (arith, rest, here)
  | inr ne ↦
      let here = others first ne in
      let le : first + 1 ≤ o = omega (arith, low, ne) in
      let rest = sum_single f (first + 1) count o others le (omega (arith, high)) in
      omega (arith, here, rest)
]

-- the first n numbers and those after them
range_joined : (f : ℕ → ℕ) (first n m : ℕ) → sum_by f (range_with_len first (n + m)) ≡ sum_by f (range_with_len first n) + sum_by f (range_with_len (first + n) m)
range_joined f first zero m = ap (λ (k : ℕ). sum_by f (range_with_len first k)) (let e : zero + m ≡ m = omega arith in e) ∙ ap (λ (k : ℕ). sum_by f (range_with_len k m)) (let e : first ≡ first + zero = omega arith in e)
    ∙ (let none : sum_by f (range_with_len first zero) ≡ 0 = refl in omega (arith, none))
range_joined f first (suc n) m =
    let rest = range_joined f (first + 1) n m in
    let on : (first + 1) + n ≡ first + suc n = omega arith in
    let shift : sum_by f (range_with_len ((first + 1) + n) m) ≡ sum_by f (range_with_len (first + suc n) m) = ap (λ (k : ℕ). sum_by f (range_with_len k m)) on in
    let more : suc n + m ≡ suc (n + m) = omega arith in
    let whole : sum_by f (range_with_len first (suc n + m)) ≡ sum_by f (range_with_len first (suc (n + m))) = ap (λ (k : ℕ). sum_by f (range_with_len first k)) more in
    let a : sum_by f (range_with_len first (suc (n + m))) ≡ f first + sum_by f (range_with_len (first + 1) (n + m)) = sum_by-cons f first (range_with_len (first + 1) (n + m)) in
    let b : sum_by f (range_with_len first (suc n)) ≡ f first + sum_by f (range_with_len (first + 1) n) = sum_by-cons f first (range_with_len (first + 1) n) in
    omega (arith, rest, shift, whole, a, b)

-- ---- lists of places

any_counted : {X : Type 0} (test : X → Bool) (xs : List X) → list_any test xs ≡ ltb 0 (count_by test xs)
any_counted test [] = refl
any_counted {X} test (x ∷ xs) = elim (cases_Bool (test x)) [
  | inl is ↦
      let first = sum_by-cons (λ (y : X). cond (test y) 1 0) x xs in
      let one : bit (test x) ≡ 1 = ap bit is in
      ap (λ (b : Bool). b || list_any test xs) is ∙ sym (lt-ltb 0 (count_by test (x ∷ xs)) (omega (arith, first, one)))
  | inr isnt ↦
      let first = sum_by-cons (λ (y : X). cond (test y) 1 0) x xs in
      let none : bit (test x) ≡ 0 = ap bit isnt in
      let same : count_by test (x ∷ xs) ≡ count_by test xs = omega (arith, first, none) in
      ap (λ (b : Bool). b || list_any test xs) isnt ∙ any_counted test xs ∙ sym (ap (ltb 0) same)
]

none_at : (q : Place) (places : List Place) → is_one_of places q ≡ false → times_at q places ≡ 0
none_at q places none = let most = ltb-false 0 (times_at q places) (sym (any_counted (λ (p : Place). same_place p q) places) ∙ none) in omega (arith, most)

some_at : (q : Place) (places : List Place) → is_one_of places q ≡ true → 0 < times_at q places
some_at q places is = ltb-true 0 (times_at q places) (sym (any_counted (λ (p : Place). same_place p q) places) ∙ is)

pub at_joined : (q : Place) (xs ys : List Place) → times_at q (xs ++ ys) ≡ times_at q xs + times_at q ys
at_joined q xs ys = sum_by-append (λ (p : Place). cond (same_place p q) 1 0) xs ys

pub at_first : (q p : Place) (xs : List Place) → times_at q (p ∷ xs) ≡ cond (same_place p q) 1 0 + times_at q xs
at_first q p xs = sum_by-cons (λ (r : Place). cond (same_place r q) 1 0) p xs

-- as chains count
times_is : OnePlace → (q : Place) (places : List Place) → times q places ≡ times_at q places
unfolding times
times_is one q [] = refl
times_is one q (p ∷ places) =
    let here : bit (same_place q p) ≡ bit (same_place p q) = ap bit (same_place_turned q p) in
    let rest = times_is one q places in
    let first = at_first q p places in
    omega (arith, here, rest, first)

-- pointers refer to a place as often as it is one of those that they refer to
pub pointers_at : (q : Place) (pointers : List (Option Place)) → times_at q (flat_map option_to_list pointers) ≡ times_led q pointers
pointers_at q [] = refl
pointers_at q (None ∷ pointers) =
    let first : times_led q (None ∷ pointers) ≡ 0 + times_led q pointers = sum_by-cons (λ (x : Option Place). cond (is_at x q) 1 0) None pointers in
    pointers_at q pointers ∙ omega (arith, first)
pointers_at q (Some p ∷ pointers) =
    let rest = pointers_at q pointers in
    let first : times_led q (Some p ∷ pointers) ≡ cond (same_place p q) 1 0 + times_led q pointers = sum_by-cons (λ (x : Option Place). cond (is_at x q) 1 0) (Some p) pointers in
    at_first q p (flat_map option_to_list pointers) ∙ omega (arith, rest, first)

-- ---- checkpoints

module _ (have : CheckpointsHaveBlocks) (once : CheckpointsStandOnce) (apart : CheckpointsShareNone) (held : Place → Option Stored) (o : ℕ) (row : Row) where
  -- a block of a checkpoint is none of older ones of other moments
  beside : (p : Place) (c : CheckpointFields) → checkpoint_held held o p ≡ Some c → (sides : List Side) → AllByRecursion (IsSide held o row) sides → AllByRecursion (λ side. side.moment ≡ c.moment → ⊥) sides
      → (q : Place) → is_one_of (checkpoint_places held o p) q ≡ true → is_one_of (side_places (of_checkpoints o held) sides) q ≡ false
  beside p c told [] all other q is = refl
  beside p c told (side ∷ sides) all other q is =
      let view = of_checkpoints o held in
      let rest = beside p c told sides all.1 other.1 q is in
      list_any-append (λ (r : Place). same_place r q) (places_in view side.place) (side_places view sides)
      ∙ elim (cases_Bool (is_one_of (places_in view side.place) q)) [
        | inl here ↦ absurd (other.0 (sym (apart held o p side.place q c (record { object = o; moment = side.moment; inode = inode_of held o row side.moment }) told all.0.told (is, here))))
        | inr none ↦ ap (λ (b : Bool). b || is_one_of (side_places view sides) q) none ∙ rest
      ]

  later_beside : (moment : ℕ) (sides : List Side) → AllByRecursion (λ later. moment < later.moment) sides → AllByRecursion (λ side. side.moment ≡ moment → ⊥) sides
  later_beside moment [] all = tt
  later_beside moment (side ∷ sides) all = ((λ (e : side.moment ≡ moment). let lt = all.0 in omega (arith, e, lt)), later_beside moment sides all.1)

  older_beside : (sides : List Side) → AllByRecursion (IsSide held o row) sides → AllByRecursion (λ side. side.moment ≡ row.checkpoint_moment → ⊥) sides
  older_beside [] all = tt
  older_beside (side ∷ sides) all = ((λ (e : side.moment ≡ row.checkpoint_moment). let lt = all.0.older in omega (arith, e, lt)), older_beside sides all.1)

  -- one checkpoint and others
  joined_once : (q : Place) (here rest : List Place) → times_at q here ≤ 1 → times_at q rest ≤ 1 → (is_one_of here q ≡ true → is_one_of rest q ≡ false) → times_at q (here ++ rest) ≤ 1
  joined_once q here rest few others parted =
      let both = at_joined q here rest in
      elim (cases_Bool (is_one_of here q)) [
        | inl is ↦ let none = none_at q rest (parted is) in omega (arith, both, few, none)
        | inr isnt ↦ let none = none_at q here isnt in omega (arith, both, others, none)
      ]

  sides_once : (q : Place) (sides : List Side) → AllByRecursion (IsSide held o row) sides → SidesAscend sides → times_at q (side_places (of_checkpoints o held) sides) ≤ 1
  sides_once q [] all ascend = omega arith
  sides_once q (side ∷ sides) all ascend =
      let view = of_checkpoints o held in
      joined_once q (places_in view side.place) (side_places view sides) (once held o side.place q (ap is_some all.0.told)) (sides_once q sides all.1 ascend.1)
      (beside side.place (record { object = o; moment = side.moment; inode = inode_of held o row side.moment }) all.0.told sides all.1 (later_beside side.moment sides ascend.0) q)

  newest_once : (q : Place) (N : Type 0) (c : CheckpointFields) (place : Option Place) → c.moment ≡ row.checkpoint_moment → MatchOption place N (λ p. checkpoint_held held o p ≡ Some c) → AllByRecursion (IsSide held o row) row.sides → SidesAscend row.sides
      → times_at q (checkpoint_named (of_checkpoints o held) place ++ side_places (of_checkpoints o held) row.sides) ≤ 1
  newest_once q N c None at told all ascend = sides_once q row.sides all ascend
  newest_once q N c (Some p) at told all ascend =
      let view = of_checkpoints o held in
      joined_once q (places_in view p) (side_places view row.sides) (once held o p q (ap is_some told)) (sides_once q row.sides all ascend)
      (beside p c told row.sides all (subst (λ (m : ℕ). AllByRecursion (λ side. side.moment ≡ m → ⊥) row.sides) (sym at) (older_beside row.sides all)) q)

  -- each block of a row's checkpoints is one of their places just once, and no other block is
  checkpoints_at : IsRow held o row → (q : Place) → times_at q (all_places_of held o row) ≡ bit (is_some (of_checkpoints o held q))
  checkpoints_at stands q =
      let most : times_at q (all_places_of held o row) ≤ 1 = newest_once q (row.checkpoint_moment ≡ 0) (record { object = o; moment = row.checkpoint_moment; inode = inode_of held o row row.checkpoint_moment }) row.checkpoint refl stands.checkpoint stands.sides stands.ascending in
      elim (cases_Bool (is_some (of_checkpoints o held q))) [
        | inl is ↦
            let some = some_at q (all_places_of held o row) (stands.only q is) in
            let one : bit (is_some (of_checkpoints o held q)) ≡ 1 = ap bit is in
            omega (arith, most, some, one)
        | inr none ↦
            let zero_is : bit (is_some (of_checkpoints o held q)) ≡ 0 = ap bit none in
            elim (cases_Bool (is_one_of (all_places_of held o row) q)) [
              | inl named ↦ absurd (false≢true (sym none ∙ checkpoints_there have held o row stands q named))
              | inr isnt ↦ let nothing = none_at q (all_places_of held o row) isnt in omega (arith, nothing, zero_is)
            ]
      ]

-- ---- an object's row

-- what an object adds where this is held, and this many names of data are counted
abbrev pub adds : ℕ → Option Stored → ℕ → ℕ
adds o None n = 0
adds o (Some block) n = cond (block.object == o) (held_names (Some block) n) 0

-- of each kind
kinds_add : (kind : BlockKind) (own : Bool) (n : ℕ) (bytes : List ℕ)
    → bit (is_some (cond (same_kind Journal kind && own) (Some bytes) None)) + (bit (is_some (or_others (option_map (begun_by Checkpoint) (cond (same_kind Checkpoint kind && own) (Some bytes) None)) (option_map (begun_by Pointers) (cond (same_kind Pointers kind && own) (Some bytes) None)))) + cond (is_some (cond (same_kind Data kind && own) (Some bytes) None)) n 0)
    ≡ cond own (cond (same_kind kind Data) n 1) 0
kinds_add Journal true n bytes = refl
kinds_add Journal false n bytes = refl
kinds_add Checkpoint true n bytes = refl
kinds_add Checkpoint false n bytes = refl
kinds_add Data true n bytes = omega arith
kinds_add Data false n bytes = refl
kinds_add Pointers true n bytes = refl
kinds_add Pointers false n bytes = refl

seen_adds : (o : ℕ) (there : Option Stored) (n : ℕ) → bit (is_some (seen_as Journal o there)) + (bit (is_some (seen_of o there)) + cond (is_some (seen_as Data o there)) n 0) ≡ adds o there n
seen_adds o None n = refl
seen_adds o (Some block) n = kinds_add block.kind (block.object == o) n block.bytes

-- A row names a place as often as the log counts it for the object.
pub row_counts : OnePlace → CheckpointsHaveBlocks → CheckpointsStandOnce → CheckpointsShareNone → (s : StoreFields) (o : ℕ) (row : Row) → IsStore s → row_of s.rows o ≡ Some row → (p : Place)
    → times_at p (places_named s.log.held o row) ≡ adds o (s.log.held p) (s.log.named p)
row_counts one have once apart s o row store there p =
    let held = s.log.held in
    let object : IsObject held o row s.latest = store.objects o row there in
    let chain : List Place = chain_places (of_kind Journal o held) o row.head in
    let pointers : List (Option Place) = pointers_named held o row in
    let whole = at_joined p chain (all_places_of held o row ++ flat_map option_to_list pointers) in
    let behind = at_joined p (all_places_of held o row) (flat_map option_to_list pointers) in
    let journal : times_at p chain ≡ bit (is_some (of_kind Journal o held p)) = sym (times_is one p chain) ∙ object.stands.chain.once p in
    let checkpoints = checkpoints_at have once apart held o row object.stands p in
    let told : times_at p (flat_map option_to_list pointers) ≡ named_of o s.log p = pointers_at p pointers ∙ sym (store.counted o row there p) in
    let all = seen_adds o (held p) (s.log.named p) in
    omega (arith, whole, behind, journal, checkpoints, told, all)

-- ---- all objects

-- nothing of an object without a row is held
nothing_adds : (o : ℕ) (there : Option Stored) (n : ℕ) → ((kind : BlockKind) → seen_as kind o there ≡ None) → adds o there n ≡ 0
nothing_adds o there n none =
    let journal : bit (is_some (seen_as Journal o there)) ≡ 0 = ap (λ (x : Option (List ℕ)). bit (is_some x)) (none Journal) in
    let checkpoint : bit (is_some (seen_of o there)) ≡ 0 = ap (λ (x : Option (List ℕ)). bit (is_some x)) (none_seen o there (none Checkpoint) (none Pointers)) in
    let of_data : cond (is_some (seen_as Data o there)) n 0 ≡ 0 = ap (λ (x : Option (List ℕ)). cond (is_some x) n 0) (none Data) in
    let all = seen_adds o there n in
    omega (arith, journal, checkpoint, of_data, all)

module _ (one : OnePlace) (have : CheckpointsHaveBlocks) (once : CheckpointsStandOnce) (apart : CheckpointsShareNone) (s : StoreFields) (store : IsStore s) where
  times_by : (p : Place) (o : ℕ) (row : Option Row) → row_of s.rows o ≡ row → times_in s.log.held p o row ≡ adds o (s.log.held p) (s.log.named p)
  times_by p o None is = sym (nothing_adds o (s.log.held p) (s.log.named p) (λ kind. store.nothing o is kind p))
  times_by p o (Some row) is = row_counts one have once apart s o row store is p

  -- each object's row names a place as often as the log counts it for the object
  pub times_counted : (p : Place) (o : ℕ) → times_named s p o ≡ adds o (s.log.held p) (s.log.named p)
  times_counted p o = times_by p o (row_of s.rows o) refl

  other_adds : (p : Place) (block : Stored) → s.log.held p ≡ Some block → (q : ℕ) → (q ≡ block.object → ⊥) → times_named s p q ≡ 0
  other_adds p block at q other =
      times_counted p q ∙ ap (λ (there : Option Stored). adds q there (s.log.named p)) at
      ∙ cond-false (block.object == q) (held_names (Some block) (s.log.named p)) 0 (ne_eqb block.object q (λ (e : block.object ≡ q). other (sym e)))

  own_adds : (p : Place) (block : Stored) → s.log.held p ≡ Some block → times_named s p block.object ≡ log_names s.log p
  own_adds p block at =
      times_counted p block.object ∙ ap (λ (there : Option Stored). adds block.object there (s.log.named p)) at
      ∙ cond-true (block.object == block.object) (held_names (Some block) (s.log.named p)) 0 (eq-eqb block.object block.object refl)
      ∙ ap (λ (there : Option Stored). held_names there (s.log.named p)) (sym at)

  -- the rows below a number name a place as often as the log counts it, or not at all
  below_by : (p : Place) (n : ℕ) (there : Option Stored) → s.log.held p ≡ there → (named_below s n p ≡ log_names s.log p) ⊎ (named_below s n p ≡ 0)
  below_by p n None at = inr (sum_none (λ o. times_named s p o) 0 n (λ q low high. times_counted p q ∙ ap (λ (x : Option Stored). adds q x (s.log.named p)) at))
  below_by p n (Some block) at = elim (cases_lt block.object n) [
    | inl below ↦ inl (sum_single (λ o. times_named s p o) 0 n block.object (other_adds p block at) (omega arith) (omega (arith, below)) ∙ own_adds p block at)
    | inr past ↦ inr (sum_none (λ o. times_named s p o) 0 n (λ q low high. other_adds p block at q (λ (e : q ≡ block.object). omega (arith, e, high, past))))
  ]

  pub below_most : (p : Place) (n : ℕ) → named_below s n p ≤ log_names s.log p
  below_most p n = elim (below_by p n (s.log.held p) refl) [ inl is ↦ omega (arith, is) | inr none ↦ omega (arith, none) ]

  -- from one number to a greater one, where no object between has a row
  pub idle : (p : Place) (n m : ℕ) → ((q : ℕ) → n ≤ q → q < n + m → row_of s.rows q ≡ None) → named_below s (n + m) p ≡ named_below s n p
  idle p n m none =
      let both = range_joined (λ o. times_named s p o) 0 n m in
      let zeros : sum_by (λ o. times_named s p o) (range_with_len (0 + n) m) ≡ 0 = sum_none (λ o. times_named s p o) (0 + n) m (λ q low high. ap (λ (row : Option Row). times_in s.log.held p q row) (none q (omega (arith, low)) (omega (arith, high)))) in
      omega (arith, both, zeros)

  -- one object more
  pub one_below : (p : Place) (n : ℕ) → named_below s (n + 1) p ≡ named_below s n p + times_named s p n
  one_below p n =
      let both = range_joined (λ o. times_named s p o) 0 n 1 in
      let first : sum_by (λ o. times_named s p o) (range_with_len (0 + n) 1) ≡ times_named s p (0 + n) + 0 = sum_by-cons (λ o. times_named s p o) (0 + n) (range_with_len (0 + n + 1) 0) in
      let at : times_named s p (0 + n) ≡ times_named s p n = ap (λ (o : ℕ). times_named s p o) (omega arith) in
      omega (arith, both, first, at)

  -- the log counts for a place how often all rows name it
  below_all : (p : Place) (n : ℕ) (there : Option Stored) → s.log.held p ≡ there → NoRowFrom s n → log_names s.log p ≡ named_below s n p
  below_all p n None at none =
      ap (λ (x : Option Stored). held_names x (s.log.named p)) at
      ∙ sym (sum_none (λ o. times_named s p o) 0 n (λ q low high. times_counted p q ∙ ap (λ (x : Option Stored). adds q x (s.log.named p)) at))
  below_all p n (Some block) at none = elim (cases_lt block.object n) [
    | inl below ↦ sym (sum_single (λ o. times_named s p o) 0 n block.object (other_adds p block at) (omega arith) (omega (arith, below)) ∙ own_adds p block at)
    | inr past ↦
        let gone : times_named s p block.object ≡ 0 = ap (λ (row : Option Row). times_in s.log.held p block.object row) (none block.object past) in
        sym (own_adds p block at) ∙ gone
        ∙ sym (sum_none (λ o. times_named s p o) 0 n (λ q low high. other_adds p block at q (λ (e : q ≡ block.object). omega (arith, e, high, past))))
  ]

pub counts_are_of_rows : OnePlace → CheckpointsHaveBlocks → CheckpointsStandOnce → CheckpointsShareNone → CountsAreOfRows
counts_are_of_rows one have once apart s n p store none = below_all one have once apart s store p n (s.log.held p) refl none
