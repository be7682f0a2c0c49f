-- The names that rows give, counted pointer by pointer.
use Rattle.std.proofs.Common.{◌≡◌, inl, inr, ℕ, zero, suc, ◌+◌, ◌-◌, ◌*◌, ◌^◌, ◌<◌, ◌≤◌, Bool, true, cond, ◌==◌, ◌&&◌, List, [], ◌∷◌, ◌++◌, length, map, get_or, set, take, replicate, count_by, Option, Some, None, IsSome, IfSome, is_some, refl, sym, ap, subst, ◌∙◌, arith}
use Rattle.std.specs.List.{All, Contains, flat_map}
use Rattle.std.specs.Option.{option_to_list}
use Rattle.std.proofs.lemmas.Bool.{cases_Bool, cases_eq, cases_lt, cond-true, cond-false, and_from, eq-eqb, ne_eqb, eqb-true, false≢true}
use Rattle.std.proofs.lemmas.List.{get_or_past, get_or-replicate, get_or-set_same, get_or-set_other, length-replicate, length-set, take-append-le, take_all}
use Rattle.std.proofs.lemmas.List.Elements.{All-weaker, All-contains_itself, Contains-append_right}
use Rattle.std.proofs.lemmas.List.Sums.{sum_by-cons, sum_by_more, sum_by-take-le}
use Rattle.s4_types.specs.Pointer.{Place}
use Rattle.s4_types.specs.declared.limits.TheConstants.{ROW_POINTERS}
use Rattle.block_log.specs.declared.kinds.BlockKind.TheVariants.{Journal, Data}
use Rattle.block_log.specs.Log.{Stored, of_kind, same_kind, same_place}
use Rattle.codec.specs.Fields.{bit}
use Rattle.journal_chain.specs.Chain.{chain_places}
use Rattle.object_map.specs.declared.map.Row.{Row}
use Rattle.object_map.specs.Objects.{IsNextAbove}
use Rattle.object_map.specs.Rows.{row_of}
use Rattle.time_read.specs.Rows.{all_places_of}
use Rattle.segment_word.specs.Frames.{Frame}
use Rattle.segment_word.specs.Layout.{frame_at, block_bytes}
use Rattle.segment_table.specs.declared.slots.Slot.{Slot}
use Rattle.segment_table.specs.Slots.{is_held}
use Rattle.segment_table.specs.Table.{Table, slots_at, block_slot, stored, held_block, held_at}
use Rattle.segment_table.specs.Room.{log_of}
use Rattle.segment_table.specs.Counts.{held_names, log_names, place_at}
use Rattle.segment_table.proofs.Reading.{used_when_held}
use Rattle.version_store.specs.Store.{StoreOf, StoreFields, IsStore, fields_of, is_at, pointers_named, times_led}
use Rattle.version_store.specs.Tallies.{places_named, times_at, times_in, times_named, named_below, NoRowFrom, AreTallies}
use Rattle.version_store.specs.private.Below.{OnePlace, CheckpointsHaveBlocks}
use Rattle.version_store.specs.private.Tallying.{pointers_to, pointers_by, number_of, is_on, times_on, IsWithin, Grows}
use Rattle.version_store.proofs.Named.{times_first, times_joined, times_few, contained_times}
use Rattle.version_store.proofs.Recounted.{names_few, pointers_few}
use Rattle.version_store.proofs.Tallies.{CheckpointsStandOnce, CheckpointsShareNone, at_first, at_joined, pointers_at, row_counts, adds, below_most, idle, one_below}

-- ---- held places

-- a place of a table that lies in a frame, in a payload block, at the frame's generation
pub record IsPlaced (t : Table) (p : Place) : Type 0 where
  pub inside : p.frame < length t.seat.frames
  pub low : 1 ≤ p.block
  pub high : p.block ≤ 15
  pub own : p.generation ≡ (frame_at t.seat.frames p.frame).generation

stored_held : (slot : Slot) (bytes : List ℕ) → IsSome (stored slot bytes) → is_held slot ≡ true
stored_held slot bytes some = elim (cases_Bool (is_held slot)) [
  | inl held ↦ held
  | inr gone ↦ absurd (false≢true (sym (ap (λ (b : Bool). is_some {T = Stored} (cond b (Some (record { kind = slot.role.kind; object = slot.role.object; bytes = bytes })) None)) gone) ∙ some))
]

block_there : (k : Frame) (s : List Slot) (b g : ℕ) → IsSome (held_block k s b g) → (g ≡ k.generation) × (is_held (block_slot s b) ≡ true)
block_there k s b g some = elim (cases_Bool (k.generation == g)) [
  | inl own ↦ (
    sym (eqb-true k.generation g own),
    stored_held (block_slot s b) (block_bytes k.contents b) (sym (ap (λ (x : Bool). is_some (cond x (stored (block_slot s b) (block_bytes k.contents b)) None)) own) ∙ some),
  )
  | inr other ↦ absurd (false≢true (sym (ap (λ (x : Bool). is_some (cond x (stored (block_slot s b) (block_bytes k.contents b)) None)) other) ∙ some))
]

-- how many used blocks a table has
pub record IsSized (t : Table) : Type 0 where
  pub frames : length t.slots ≡ length t.seat.frames
  pub few : (f : ℕ) → f < length t.seat.frames → length (slots_at t.slots f) ≤ 15

-- what is held is placed so
pub placed : (t : Table) → IsSized t → (p : Place) → IsSome (held_at t p) → IsPlaced t p
placed t sized p some =
    let s : List Slot = slots_at t.slots p.frame in
    let (own, held) = block_there (frame_at t.seat.frames p.frame) s p.block p.generation some in
    let (low, high) = used_when_held s p.block held in
    let sizes = sized.frames in
    let inside : p.frame < length t.seat.frames = elim (cases_lt p.frame (length t.slots)) [
      | inl below ↦ omega (arith, below, sizes)
      | inr past ↦ let none : length s ≡ 0 = ap length (get_or_past t.slots p.frame [] past) in absurd (omega (arith, none, low, high))
    ] in
    let few = sized.few p.frame inside in
    record { inside = inside; low = low; high = omega (arith, high, few); own = own }

-- ---- pointers

mapped_times : (q : Place) (places : List Place) → times_led q (map Some places) ≡ times_at q places
mapped_times q [] = refl
mapped_times q (p ∷ places) =
    let rest = mapped_times q places in
    let first : times_led q (map Some (p ∷ places)) ≡ cond (same_place p q) 1 0 + times_led q (map Some places) = times_first q (Some p) (map Some places) in
    let here = at_first q p places in
    omega (arith, rest, first, here)

-- the pointers of a row refer to a place as often as the row names it
pointers_times : (held : Place → Option Stored) (o : ℕ) (row : Row) (q : Place) → times_led q (pointers_to held o row) ≡ times_at q (places_named held o row)
pointers_times held o row q =
    let chain : List Place = chain_places (of_kind Journal o held) o row.head in
    let checkpoints : List Place = all_places_of held o row in
    let of_data : List (Option Place) = pointers_named held o row in
    let a : times_led q (pointers_to held o row) ≡ times_led q (map Some chain) + times_led q (map Some checkpoints ++ of_data) = times_joined q (map Some chain) (map Some checkpoints ++ of_data) in
    let b = times_joined q (map Some checkpoints) of_data in
    let c : times_at q (places_named held o row) ≡ times_at q chain + times_at q (checkpoints ++ flat_map option_to_list of_data) = at_joined q chain (checkpoints ++ flat_map option_to_list of_data) in
    let d = at_joined q checkpoints (flat_map option_to_list of_data) in
    let e = mapped_times q chain in
    let f = mapped_times q checkpoints in
    let g = pointers_at q of_data in
    omega (arith, a, b, c, d, e, f, g)

row_times : (held : Place → Option Stored) (o : ℕ) (q : Place) (row : Option Row) → times_led q (pointers_by held o row) ≡ times_in held q o row
row_times held o q None = refl
row_times held o q (Some row) = pointers_times held o row q

-- ---- numbers of places

number_within : (t : Table) (p : Place) → IsPlaced t p → number_of p < 15 * length t.seat.frames
number_within t p at =
    let inside = at.inside in
    let low = at.low in
    let high = at.high in
    let below : 15 * p.frame + (p.block - 1) < 15 * length t.seat.frames = omega (arith, inside, low, high) in
    below

number_same : OnePlace → (t : Table) (f b : ℕ) (p : Place) → b < 15 → IsPlaced t p → (number_of p == 15 * f + b) ≡ same_place p (place_at t f (b + 1))
number_same one t f b p few at =
    let low = at.low in
    let high = at.high in
    elim (cases_eq (number_of p) (15 * f + b)) [
      | inl e ↦
          let is : 15 * p.frame + (p.block - 1) ≡ 15 * f + b = e in
          let frame : p.frame ≡ f = omega (arith, is, low, high, few) in
          let block : p.block ≡ b + 1 = omega (arith, is, low, high, few) in
          let generation : p.generation ≡ (frame_at t.seat.frames f).generation = at.own ∙ ap (λ (n : ℕ). (frame_at t.seat.frames n).generation) frame in
          eq-eqb (number_of p) (15 * f + b) e
          ∙ sym (and_from (p.frame == f) (p.block == b + 1 && p.generation == (frame_at t.seat.frames f).generation) (eq-eqb p.frame f frame)
          (and_from (p.block == b + 1) (p.generation == (frame_at t.seat.frames f).generation) (eq-eqb p.block (b + 1) block) (eq-eqb p.generation (frame_at t.seat.frames f).generation generation)))
      | inr ne ↦ ne_eqb (number_of p) (15 * f + b) ne ∙ sym (elim (cases_Bool (same_place p (place_at t f (b + 1)))) [
        | inl same ↦
            let e : number_of p ≡ number_of (place_at t f (b + 1)) = ap number_of (one p (place_at t f (b + 1)) same) in
            absurd (ne (e ∙ (let back : 15 * f + ((b + 1) - 1) ≡ 15 * f + b = omega arith in back)))
        | inr other ↦ other
      ])
    ]

count_alike : {X : Type 0} (test other : X → Bool) (xs : List X) → ((x : X) → Contains xs x → test x ≡ other x) → count_by test xs ≡ count_by other xs
count_alike test other [] each = refl
count_alike {X} test other (x ∷ xs) each =
    let here : bit (test x) ≡ bit (other x) = ap bit (each x (0, omega arith, refl)) in
    let rest = count_alike test other xs (λ y there. each y (Contains-append_right (x ∷ []) xs y there)) in
    let a = sum_by-cons (λ (y : X). cond (test y) 1 0) x xs in
    let b = sum_by-cons (λ (y : X). cond (other y) 1 0) x xs in
    omega (arith, here, rest, a, b)

pointer_same : OnePlace → (t : Table) (f b : ℕ) → b < 15 → (pointer : Option Place) → IfSome pointer (IsPlaced t) → is_on (15 * f + b) pointer ≡ is_at pointer (place_at t f (b + 1))
pointer_same one t f b few None at = refl
pointer_same one t f b few (Some p) at = number_same one t f b p few at

-- pointers that lead to placed ones lead to the place of a number as often as to the place
on_is : OnePlace → (t : Table) (f b : ℕ) → b < 15 → (pointers : List (Option Place)) → ((pointer : Option Place) → Contains pointers pointer → IfSome pointer (IsPlaced t)) → times_on (15 * f + b) pointers ≡ times_led (place_at t f (b + 1)) pointers
on_is one t f b few pointers each = count_alike (λ (x : Option Place). is_on (15 * f + b) x) (λ (x : Option Place). is_at x (place_at t f (b + 1))) pointers (λ x there. pointer_same one t f b few x (each x there))

-- each number is that of a block of a frame
pub record IsSplit (i n : ℕ) : Type 0 where
  pub frame : ℕ
  pub block : ℕ
  pub inside : frame < n
  pub few : block < 15
  pub is : i ≡ 15 * frame + block

split : (i n : ℕ) → i < 15 * n → IsSplit i n
split i zero below = absurd (omega (arith, below))
split i (suc n) below = elim (cases_lt i (15 * n)) [
  | inl less ↦ let at = split i n less in let inside = at.inside in record { frame = at.frame; block = at.block; inside = omega (arith, inside); few = at.few; is = at.is }
  | inr past ↦ record { frame = n; block = i - 15 * n; inside = omega arith; few = omega (arith, below, past); is = omega (arith, past) }
]

-- a list that fills its place is all that is taken of it and what comes after
pub all_taken : (n : ℕ) (xs ys : List ℕ) → length xs ≡ n → xs ≡ take n (xs ++ ys)
all_taken n xs ys full = sym (take-append-le n xs ys (omega (arith, full)) ∙ take_all n xs (omega (arith, full)))

-- ---- one pointer

-- a hole
pub grown_none : (old : List ℕ) → Grows old (None ∷ []) old
grown_none old = record { count = refl; each = λ i below. let none : times_on i (None ∷ []) ≡ 0 = refl in omega (arith, none) }

on_more : (i : ℕ) (pointers : List (Option Place)) (k : ℕ) → k < length pointers → times_on i (take (k + 1) pointers) ≡ times_on i (take k pointers) + bit (is_on i (get_or pointers k None))
on_more i pointers k below = sum_by_more (λ (x : Option Place). cond (is_on i x) 1 0) pointers k None below

on_part : (i : ℕ) (pointers : List (Option Place)) (k : ℕ) → times_on i (take k pointers) ≤ times_on i pointers
on_part i pointers k = sum_by-take-le (λ (x : Option Place). cond (is_on i x) 1 0) pointers k

on_one : (i : ℕ) (pointer : Option Place) → times_on i (pointer ∷ []) ≡ bit (is_on i pointer)
on_one i pointer = sum_by-cons (λ (x : Option Place). cond (is_on i x) 1 0) pointer [] ∙ omega arith

-- a place
pub grown_one : (old new : List ℕ) (p : Place) (n x : ℕ) → n ≡ number_of p → n < length old → x ≡ get_or old n 0 + 1 → new ≡ set old n x → Grows old (Some p ∷ []) new
grown_one old new p n x at inside more is = record {
  count = ap length is ∙ length-set old n x;
  each = λ i below.
      let one = on_one i (Some p) in
      elim (cases_eq n i) [
        | inl e ↦
            let here : get_or new i 0 ≡ x = ap (λ (l : List ℕ). get_or l i 0) is ∙ ap (λ (k : ℕ). get_or (set old n x) k 0) (sym e) ∙ get_or-set_same old n x 0 inside in
            let was : get_or old n 0 ≡ get_or old i 0 = ap (λ (k : ℕ). get_or old k 0) e in
            let counts : bit (is_on i (Some p)) ≡ 1 = ap bit (eq-eqb (number_of p) i (sym at ∙ e)) in
            omega (arith, here, was, counts, one, more)
        | inr ne ↦
            let here : get_or new i 0 ≡ get_or old i 0 = ap (λ (l : List ℕ). get_or l i 0) is ∙ get_or-set_other old n i x 0 (λ (e : i ≡ n). ne (sym e)) in
            let counts : bit (is_on i (Some p)) ≡ 0 = ap bit (ne_eqb (number_of p) i (λ (e : number_of p ≡ i). ne (at ∙ e))) in
            omega (arith, here, counts, one)
      ];
}

-- one more of a list
pub grown_more : (old now next : List ℕ) (pointers : List (Option Place)) (k : ℕ) (pointer : Option Place) → k < length pointers → pointer ≡ get_or pointers k None → Grows old (take k pointers) now → Grows now (pointer ∷ []) next → Grows old (take (k + 1) pointers) next
grown_more old now next pointers k pointer below at before after =
    let first = before.count in
    let second = after.count in
    record {
      count = omega (arith, first, second);
      each = λ i inside.
          let a = before.each i inside in
          let b = after.each i (omega (arith, first, inside)) in
          let c = on_more i pointers k below in
          let d = on_one i pointer in
          let e : bit (is_on i pointer) ≡ bit (is_on i (get_or pointers k None)) = ap (λ (x : Option Place). bit (is_on i x)) at in
          omega (arith, a, b, c, d, e);
    }

-- there is room for the next one
pub room_one : (old now : List ℕ) (pointers : List (Option Place)) (k : ℕ) (p : Place) → k < length pointers → get_or pointers k None ≡ Some p → number_of p < length old → Grows old (take k pointers) now
    → ((i : ℕ) → i < length old → get_or old i 0 + times_on i pointers < 2 ^ 32) → get_or now (number_of p) 0 + 1 < 2 ^ 32
room_one old now pointers k p below at inside before room =
    let i = number_of p in
    let a = before.each i inside in
    let b = on_more i pointers k below in
    let c : bit (is_on i (get_or pointers k None)) ≡ 1 = ap (λ (x : Option Place). bit (is_on i x)) at ∙ ap bit (eq-eqb (number_of p) i refl) in
    let d = on_part i pointers (k + 1) in
    let e = room i inside in
    omega (arith, a, b, c, d, e)

-- ---- the rows of a store

-- a row's number of names is small
small : (there : Option Stored) (n : ℕ) → n ≤ ROW_POINTERS → held_names there n ≤ ROW_POINTERS
small None n few = omega arith
small (Some block) n few = elim (cases_Bool (same_kind block.kind Data)) [
  | inl is ↦ let e : held_names (Some block) n ≡ n = cond-true (same_kind block.kind Data) n 1 is in omega (arith, e, few)
  | inr isnt ↦ let e : held_names (Some block) n ≡ 1 = cond-false (same_kind block.kind Data) n 1 isnt in omega (arith, e)
]

few_named : (s : StoreFields) → IsStore s → (p : Place) → log_names s.log p ≤ ROW_POINTERS
few_named s store p = small (s.log.held p) (s.log.named p) (names_few s.log s.rows ROW_POINTERS store.names store.nothing
    (λ o row is q.
    let a = store.counted o row is q in
    let b = times_few q (pointers_named s.log.held o row) in
    let c = pointers_few s.log.held o row s.latest (store.objects o row is) (store.few o row is) in
    omega (arith, a, b, c)) p)

module _ (one : OnePlace) (have : CheckpointsHaveBlocks) (once : CheckpointsStandOnce) (apart : CheckpointsShareNone) (v : StoreOf Table) (store : IsStore (fields_of log_of v)) (sized : IsSized v.table) where
  held_adds : (o n : ℕ) (there : Option Stored) → 0 < adds o there n → IsSome there
  held_adds o n None some = let none : 0 < 0 = some in absurd (omega (arith, none))
  held_adds o n (Some block) some = refl

  led_placed : (o : ℕ) (row : Option Row) → row_of v.rows o ≡ row → (p : Place) → Contains (pointers_by (log_of v.table).held o row) (Some p) → IsPlaced v.table p
  led_placed o None is p (n, below, at) = let none : n < 0 = below in absurd (omega (arith, none))
  led_placed o (Some row) is p there =
      let log = log_of v.table in
      let some = contained_times p (pointers_to log.held o row) there in
      let times = pointers_times log.held o row p in
      let counts : times_at p (places_named log.held o row) ≡ adds o (log.held p) (log.named p) = row_counts one have once apart (fields_of log_of v) o row store is p in
      placed v.table sized p (held_adds o (log.named p) (log.held p) (omega (arith, some, times, counts)))

  pointer_placed : (o : ℕ) (pointer : Option Place) → Contains (pointers_by (log_of v.table).held o (row_of v.rows o)) pointer → IfSome pointer (IsPlaced v.table)
  pointer_placed o None there = tt
  pointer_placed o (Some p) there = led_placed o (row_of v.rows o) refl p there

  within_one : (pointer : Option Place) → IfSome pointer (IsPlaced v.table) → IsWithin (15 * length v.table.seat.frames) pointer
  within_one None at = tt
  within_one (Some p) at = number_within v.table p at

  -- each of the numbers is one of the tallies'
  pub all_within : (o n : ℕ) (pointers : List (Option Place)) → n ≡ 15 * length v.table.seat.frames → pointers ≡ pointers_by (log_of v.table).held o (row_of v.rows o) → All (IsWithin n) pointers
  all_within o n pointers count is =
      let all : List (Option Place) = pointers_by (log_of v.table).held o (row_of v.rows o) in
      subst (λ (m : ℕ). All (IsWithin m) pointers) (sym count) (subst (All (IsWithin (15 * length v.table.seat.frames))) (sym is)
      (All-weaker (Contains all) (IsWithin (15 * length v.table.seat.frames)) (λ x there. within_one x (pointer_placed o x there)) all (All-contains_itself all)))

  -- the pointers of an object refer to the place of a number as often as the object's row names it
  times_numbered : (o f b : ℕ) → b < 15 → times_on (15 * f + b) (pointers_by (log_of v.table).held o (row_of v.rows o)) ≡ times_named (fields_of log_of v) (place_at v.table f (b + 1)) o
  times_numbered o f b few =
      on_is one v.table f b few (pointers_by (log_of v.table).held o (row_of v.rows o)) (pointer_placed o)
      ∙ row_times (log_of v.table).held o (place_at v.table f (b + 1)) (row_of v.rows o)

  -- from one object to the next
  next_below : (last next : ℕ) (p : Place) → IsNextAbove v.rows last next → named_below (fields_of log_of v) (next + 1) p ≡ named_below (fields_of log_of v) (last + 1) p + times_named (fields_of log_of v) p next
  next_below last next p above =
      let s = fields_of log_of v in
      let more = above.above in
      let same = idle one have once apart s store p (last + 1) (next - (last + 1)) (λ q low high. above.least q (omega (arith, low)) (omega (arith, high, more, low))) in
      let on : (last + 1) + (next - (last + 1)) ≡ next = omega (arith, more) in
      let at : named_below s ((last + 1) + (next - (last + 1))) p ≡ named_below s next p = ap (λ (n : ℕ). named_below s n p) on in
      let step = one_below one have once apart s store p next in
      omega (arith, same, at, step)

  -- no number gets too great
  pub room_for : (last next : ℕ) (tallies : List ℕ) (pointers : List (Option Place)) → IsNextAbove v.rows last next → AreTallies v.table (fields_of log_of v) (last + 1) tallies → pointers ≡ pointers_by (log_of v.table).held next (row_of v.rows next)
      → (i : ℕ) → i < length tallies → get_or tallies i 0 + times_on i pointers < 2 ^ 32
  room_for last next tallies pointers above are is i below =
      let s = fields_of log_of v in
      let count = are.count in
      let at = split i (length v.table.seat.frames) (omega (arith, below, count)) in
      let p = place_at v.table at.frame (at.block + 1) in
      let was : get_or tallies i 0 ≡ named_below s (last + 1) p = ap (λ (k : ℕ). get_or tallies k 0) at.is ∙ are.each at.frame at.block at.inside at.few in
      let more : times_on i pointers ≡ times_named s p next = ap (λ (k : ℕ). times_on k pointers) at.is ∙ ap (times_on (15 * at.frame + at.block)) is ∙ times_numbered next at.frame at.block at.few in
      let step = next_below last next p above in
      let most = below_most one have once apart s store p (next + 1) in
      let few = few_named s store p in
      omega (arith, was, more, step, most, few)

  -- the tallies with one object more
  pub tallies_more : (last next : ℕ) (old new : List ℕ) (pointers : List (Option Place)) → IsNextAbove v.rows last next → AreTallies v.table (fields_of log_of v) (last + 1) old → pointers ≡ pointers_by (log_of v.table).held next (row_of v.rows next)
      → Grows old pointers new → AreTallies v.table (fields_of log_of v) (next + 1) new
  tallies_more last next old new pointers above are is grows =
      let s = fields_of log_of v in
      let count = are.count in
      let same = grows.count in
      record {
        count = omega (arith, count, same);
        each = λ f b inside few.
            let p = place_at v.table f (b + 1) in
            let was = are.each f b inside few in
            let grown = grows.each (15 * f + b) (omega (arith, count, inside, few)) in
            let more : times_on (15 * f + b) pointers ≡ times_named s p next = ap (times_on (15 * f + b)) is ∙ times_numbered next f b few in
            let step = next_below last next p above in
            omega (arith, was, grown, more, step);
      }

  none_first : (p : Place) (row : Option Row) → row_of v.rows 0 ≡ row → times_in (log_of v.table).held p 0 row ≡ 0
  none_first p None is = refl
  none_first p (Some row) is = let least = (store.objects 0 row is).stands.object in absurd (omega (arith, least))

  -- the tallies of no object
  pub tallies_none : (tallies : List ℕ) → tallies ≡ replicate (15 * length v.table.seat.frames) 0 → AreTallies v.table (fields_of log_of v) (0 + 1) tallies
  tallies_none tallies is =
      let s = fields_of log_of v in
      record {
        count = ap length is ∙ length-replicate (15 * length v.table.seat.frames) 0;
        each = λ f b inside few.
            let p = place_at v.table f (b + 1) in
            let zero_is : get_or tallies (15 * f + b) 0 ≡ 0 = ap (λ (l : List ℕ). get_or l (15 * f + b) 0) is ∙ get_or-replicate (15 * length v.table.seat.frames) (15 * f + b) 0 0 (omega (arith, inside, few)) in
            let none : named_below s 0 p ≡ 0 = refl in
            let step = one_below one have once apart s store p 0 in
            let first : times_named s p 0 ≡ 0 = none_first p (row_of v.rows 0) refl in
            omega (arith, zero_is, none, step, first);
      }

  -- the tallies of all objects
  pub tallies_all : (last n : ℕ) (tallies : List ℕ) → ((q : ℕ) → last < q → row_of v.rows q ≡ None) → NoRowFrom (fields_of log_of v) n → AreTallies v.table (fields_of log_of v) (last + 1) tallies → AreTallies v.table (fields_of log_of v) n tallies
  tallies_all last n tallies above none are =
      let s = fields_of log_of v in
      record {
        count = are.count;
        each = λ f b inside few.
            let p = place_at v.table f (b + 1) in
            are.each f b inside few ∙ elim (cases_lt n (last + 1)) [
              | inl less ↦
                  let same = idle one have once apart s store p n (last + 1 - n) (λ q low high. none q low) in
                  ap (λ (m : ℕ). named_below s m p) (let e : last + 1 ≡ n + (last + 1 - n) = omega (arith, less) in e) ∙ same
              | inr past ↦
                  let same = idle one have once apart s store p (last + 1) (n - (last + 1)) (λ q low high. above q (omega (arith, low))) in
                  sym (ap (λ (m : ℕ). named_below s m p) (let e : n ≡ (last + 1) + (n - (last + 1)) = omega (arith, past) in e) ∙ same)
            ];
      }

  -- what is known of a store with the same rows and the same log
  above_then : (now : StoreOf Table) (last next : ℕ) → fields_of log_of now ≡ fields_of log_of v → IsNextAbove now.rows last next → IsNextAbove v.rows last next
  above_then now last next same above = subst (λ (s : StoreFields). IsNextAbove s.rows last next) same above

  listed_then : (now : StoreOf Table) (next : ℕ) (pointers : List (Option Place)) → fields_of log_of now ≡ fields_of log_of v → pointers ≡ pointers_by (log_of now.table).held next (row_of now.rows next)
      → pointers ≡ pointers_by (log_of v.table).held next (row_of v.rows next)
  listed_then now next pointers same is = is ∙ ap (λ (s : StoreFields). pointers_by s.log.held next (row_of s.rows next)) same

  pub within_then : (now : StoreOf Table) (next n : ℕ) (pointers : List (Option Place)) → fields_of log_of now ≡ fields_of log_of v → n ≡ 15 * length v.table.seat.frames
      → pointers ≡ pointers_by (log_of now.table).held next (row_of now.rows next) → All (IsWithin n) pointers
  within_then now next n pointers same count is = all_within next n pointers count (listed_then now next pointers same is)

  pub room_then : (now : StoreOf Table) (last next : ℕ) (tallies : List ℕ) (pointers : List (Option Place)) → fields_of log_of now ≡ fields_of log_of v → IsNextAbove now.rows last next
      → AreTallies v.table (fields_of log_of v) (last + 1) tallies → pointers ≡ pointers_by (log_of now.table).held next (row_of now.rows next)
      → (i : ℕ) → i < length tallies → get_or tallies i 0 + times_on i pointers < 2 ^ 32
  room_then now last next tallies pointers same above are is = room_for last next tallies pointers (above_then now last next same above) are (listed_then now next pointers same is)

  pub more_then : (now : StoreOf Table) (last next : ℕ) (old new : List ℕ) (pointers : List (Option Place)) → fields_of log_of now ≡ fields_of log_of v → IsNextAbove now.rows last next
      → AreTallies v.table (fields_of log_of v) (last + 1) old → pointers ≡ pointers_by (log_of now.table).held next (row_of now.rows next) → Grows old pointers new → AreTallies v.table (fields_of log_of v) (next + 1) new
  more_then now last next old new pointers same above are is grows = tallies_more last next old new pointers (above_then now last next same above) are (listed_then now next pointers same is) grows

  pub all_then : (now : StoreOf Table) (last n : ℕ) (tallies : List ℕ) → fields_of log_of now ≡ fields_of log_of v → ((q : ℕ) → last < q → row_of now.rows q ≡ None) → NoRowFrom (fields_of log_of v) n
      → AreTallies v.table (fields_of log_of v) (last + 1) tallies → AreTallies v.table (fields_of log_of v) n tallies
  all_then now last n tallies same above = tallies_all last n tallies (subst (λ (s : StoreFields). (q : ℕ) → last < q → row_of s.rows q ≡ None) same above)
