-- How often blocks of a table are named, and what a name more or less of one makes of it.
use Rattle.std.proofs.Common.{◌≡◌, inl, inr, ℕ, zero, suc, ◌+◌, ◌-◌, ◌<◌, ◌≤◌, Bool, true, false, cond, ltb, leb, ◌==◌, ◌&&◌, List, [], ◌∷◌, ◌++◌, length, set, get_or, Option, Some, None, refl, sym, ap, subst, ◌∙◌, add-one, arith}
use Rattle.std.proofs.lemmas.List.{get_or_past, get_or-set_same, get_or-set_other, set_past}
use Rattle.std.proofs.lemmas.Bool.{cases_Bool, cases_eq, cases_lt, ne_eqb, cond-true, cond-false, eq-eqb, ltb-true, ltb-false, lt-ltb, leb-true, leb-false}
use Rattle.s4_types.specs.Pointer.{Place}
use Rattle.block_log.specs.Log.{Stored, same_place, same_kind, is_data, without, with_more, with_fewer, named_with, dropped, dropped_by, NamesAreOfData}
use Rattle.block_log.specs.declared.kinds.BlockKind.{BlockKind}
use Rattle.block_log.specs.declared.kinds.BlockKind.TheVariants.{Journal, Checkpoint, Data, Pointers}
use Rattle.codec.specs.declared.summaries.BlockRole.{BlockRole}
use Rattle.segment_word.specs.Frames.{Frame}
use Rattle.segment_word.specs.Layout.{frame_at, block_bytes}
use Rattle.segment_table.specs.declared.slots.Slot.{Slot}
use Rattle.segment_table.specs.Slots.{no_slot, is_held, data_names, fewer_names, let_go, more_names}
use Rattle.segment_table.specs.Table.{Table, slots_at, block_slot, stored, held_block, held_at, named_block, named_at}
use Rattle.segment_table.specs.Room.{log_of}
use Rattle.segment_word.specs.Handles.{Drive}
use Rattle.segment_table.proofs.Viewing.{view_changed}
use Rattle.segment_table.specs.Changes.{IsPut}
use Rattle.segment_table.proofs.Alone.{generation_alone}
use Rattle.segment_table.proofs.Holding.{slot_last, slot_more}
use Rattle.segment_table.proofs.Sound.{stays}
use std.Path.{fun_ext}
use Rattle.block_log.proofs.Places.{one_place}

-- ---- what is named is what is held of of_data

data_stored : (slot : Slot) (bytes : List ℕ) → ltb 0 (data_names slot) ≡ is_data (stored slot bytes)
data_stored slot bytes = elim (cases_Bool (same_kind slot.role.kind Data)) [
  | inl of_data ↦ ap (λ (b : Bool). ltb 0 (cond b slot.named 0)) of_data ∙ elim (cases_Bool (is_held slot)) [
    | inl held ↦ held ∙ sym (ap (λ (b : Bool). is_data (cond b (Some (record { kind = slot.role.kind; object = slot.role.object; bytes = bytes })) None)) held ∙ of_data)
    | inr gone ↦ gone ∙ sym (ap (λ (b : Bool). is_data (cond b (Some (record { kind = slot.role.kind; object = slot.role.object; bytes = bytes })) None)) gone)
  ]
  | inr other ↦ ap (λ (b : Bool). ltb 0 (cond b slot.named 0)) other ∙ elim (cases_Bool (is_held slot)) [
    | inl held ↦ sym (ap (λ (b : Bool). is_data (cond b (Some (record { kind = slot.role.kind; object = slot.role.object; bytes = bytes })) None)) held ∙ other)
    | inr gone ↦ sym (ap (λ (b : Bool). is_data (cond b (Some (record { kind = slot.role.kind; object = slot.role.object; bytes = bytes })) None)) gone)
  ]
]

data_block : (k : Frame) (s : List Slot) (b g : ℕ) → ltb 0 (named_block k s b g) ≡ is_data (held_block k s b g)
data_block k s b g = elim (cases_Bool (k.generation == g)) [
  | inl own ↦ ap (λ (x : Bool). ltb 0 (cond x (data_names (block_slot s b)) 0)) own ∙ data_stored (block_slot s b) (block_bytes k.contents b) ∙ sym (ap (λ (x : Bool). is_data (cond x (stored (block_slot s b) (block_bytes k.contents b)) None)) own)
  | inr other ↦ ap (λ (x : Bool). ltb 0 (cond x (data_names (block_slot s b)) 0)) other ∙ sym (ap (λ (x : Bool). is_data (cond x (stored (block_slot s b) (block_bytes k.contents b)) None)) other)
]

-- so it is of each table
pub names_are : (t : Table) → NamesAreOfData (log_of t)
names_are t p = data_block (frame_at t.seat.frames p.frame) (slots_at t.slots p.frame) p.block p.generation

-- ---- one slot

-- what is at p, at its frame's generation
abbrev slot_of : Table → Place → Slot
slot_of t p = block_slot (slots_at t.slots p.frame) p.block

abbrev bytes_of : Table → Place → List ℕ
bytes_of t p = block_bytes (frame_at t.seat.frames p.frame).contents p.block

held_own : (t : Table) (p : Place) → (frame_at t.seat.frames p.frame).generation ≡ p.generation → held_at t p ≡ stored (slot_of t p) (bytes_of t p)
held_own t p own = cond-true ((frame_at t.seat.frames p.frame).generation == p.generation) (stored (slot_of t p) (bytes_of t p)) None (eq-eqb (frame_at t.seat.frames p.frame).generation p.generation own)

named_own : (t : Table) (p : Place) → (frame_at t.seat.frames p.frame).generation ≡ p.generation → named_at t p ≡ data_names (slot_of t p)
named_own t p own = cond-true ((frame_at t.seat.frames p.frame).generation == p.generation) (data_names (slot_of t p)) 0 (eq-eqb (frame_at t.seat.frames p.frame).generation p.generation own)

-- a data block that was named more than once is held still
stored_less : (slot : Slot) (bytes : List ℕ) → 1 < data_names slot → stored (fewer_names slot) bytes ≡ stored slot bytes
stored_less slot bytes more =
    let less : is_held (fewer_names slot) ≡ true = lt-ltb 0 (data_names slot - 1) (omega (arith, more)) in
    let was : is_held slot ≡ true = elim (cases_Bool (same_kind slot.role.kind Data)) [
      | inl of_data ↦ let same : data_names slot ≡ slot.named = ap (λ (b : Bool). cond b slot.named 0) of_data in lt-ltb 0 slot.named (omega (arith, same, more))
      | inr other ↦ let none : data_names slot ≡ 0 = ap (λ (b : Bool). cond b slot.named 0) other in absurd (omega (arith, none, more))
    ] in
    ap (λ (b : Bool). cond b (Some (record { kind = slot.role.kind; object = slot.role.object; bytes = bytes })) None) (less ∙ sym was)

-- and one that was named once, or is not of of_data, is held no more
stored_gone : (slot : Slot) (bytes : List ℕ) → data_names slot ≤ 1 → stored (fewer_names slot) bytes ≡ None
stored_gone slot bytes few =
    let none : data_names slot - 1 ≡ 0 = omega (arith, few) in
    let gone : is_held (fewer_names slot) ≡ false = ap (λ (n : ℕ). ltb 0 n) none in
    ap (λ (b : Bool). cond b (Some (record { kind = slot.role.kind; object = slot.role.object; bytes = bytes })) None) gone

names_less : (slot : Slot) → data_names (fewer_names slot) ≡ data_names slot - 1
names_less slot = elim (cases_Bool (same_kind slot.role.kind Data)) [
  | inl of_data ↦ ap (λ (b : Bool). cond b (data_names slot - 1) 0) of_data
  | inr other ↦ let none : data_names slot ≡ 0 = ap (λ (b : Bool). cond b slot.named 0) other in ap (λ (b : Bool). cond b (data_names slot - 1) 0) other ∙ omega (arith, none)
]

-- ---- one name less

pub slot_before : (s : List Slot) (b : ℕ) → 1 ≤ b → block_slot s b ≡ get_or s (b - 1) no_slot
slot_before s zero low = absurd (omega arith)
slot_before s (suc b) low = let e : b ≡ suc b - 1 = omega arith in ap (λ (n : ℕ). get_or s n no_slot) e

module _ (old new : Table) (p : Place) (inside : p.frame < length old.slots) (low : 1 ≤ p.block) (own : (frame_at old.seat.frames p.frame).generation ≡ p.generation) (seat : new.seat ≡ old.seat)
    (slots : new.slots ≡ set old.slots p.frame (let_go (slots_at old.slots p.frame) (p.block - 1))) where
  abbrev S : List Slot
  S = slots_at old.slots p.frame

  abbrev x : Slot
  x = get_or S (p.block - 1) no_slot

  x_is : slot_of old p ≡ x
  x_is = slot_before S p.block low

  names_p : named_at old p ≡ data_names x
  names_p = named_own old p own ∙ ap data_names x_is

  -- where the block is used
  held_less_at : p.block ≤ length S → (q : Place) → held_at new q ≡ cond (same_place p q) (stored (fewer_names x) (bytes_of old q)) (held_at old q)
  held_less_at high q = view_changed (λ (k : Frame) (b : ℕ) (slot : Slot). stored slot (block_bytes k.contents b)) None old new p q (fewer_names x) inside low high own seat slots

  named_less_at : p.block ≤ length S → (q : Place) → named_at new q ≡ cond (same_place p q) (data_names (fewer_names x)) (named_at old q)
  named_less_at high q = view_changed (λ (k : Frame) (b : ℕ) (slot : Slot). data_names slot) 0 old new p q (fewer_names x) inside low high own seat slots

  -- where it isn't, nothing was there and nothing changes
  unused : length S < p.block → x ≡ no_slot
  unused past = get_or_past S (p.block - 1) no_slot (omega (arith, past, low))

  same_slots : length S < p.block → new.slots ≡ old.slots
  same_slots past = slots ∙ ap (set old.slots p.frame) (set_past S (p.block - 1) (fewer_names x) (omega (arith, past, low))) ∙ sym (stays old.slots p.frame)

  nothing_there : length S < p.block → held_at old p ≡ None
  nothing_there past = held_own old p own ∙ ap (λ (slot : Slot). stored slot (bytes_of old p)) (x_is ∙ unused past)

  still : length S < p.block → (q : Place) → held_at new q ≡ held_at old q
  still past q = ap (λ (d : Drive). held_block (frame_at d.frames q.frame) (slots_at new.slots q.frame) q.block q.generation) seat ∙ ap (λ (l : List (List Slot)). held_block (frame_at old.seat.frames q.frame) (slots_at l q.frame) q.block q.generation) (same_slots past)

  still_named : length S < p.block → (q : Place) → named_at new q ≡ named_at old q
  still_named past q = ap (λ (d : Drive). named_block (frame_at d.frames q.frame) (slots_at new.slots q.frame) q.block q.generation) seat ∙ ap (λ (l : List (List Slot)). named_block (frame_at old.seat.frames q.frame) (slots_at l q.frame) q.block q.generation) (same_slots past)

  without_nothing : held_at old p ≡ None → (q : Place) → held_at old q ≡ without (held_at old) p q
  without_nothing none q = elim (cases_Bool (same_place p q)) [
    | inl same ↦ ap (held_at old) (sym (one_place p q same)) ∙ none ∙ sym (cond-true (same_place p q) None (held_at old q) same)
    | inr other ↦ sym (cond-false (same_place p q) None (held_at old q) other)
  ]

  gone_here : data_names x ≤ 1 → (q : Place) → held_at new q ≡ without (held_at old) p q
  gone_here few q = elim (cases_lt (length S) p.block) [
    | inl past ↦ still past q ∙ without_nothing (nothing_there past) q
    | inr high ↦ held_less_at (omega (arith, high)) q ∙ ap (λ (o : Option Stored). cond (same_place p q) o (held_at old q)) (stored_gone x (bytes_of old q) few)
  ]

  -- a block that is named more than once is used
  used_here : 1 < data_names x → p.block ≤ length S
  used_here more = elim (cases_lt (length S) p.block) [
    | inl past ↦ let none : data_names x ≡ 0 = ap data_names (unused past) in absurd (omega (arith, none, more))
    | inr high ↦ omega (arith, high)
  ]

  stays_here : 1 < data_names x → (q : Place) → held_at new q ≡ held_at old q
  stays_here more q = held_less_at (used_here more) q ∙ elim (cases_Bool (same_place p q)) [
    | inl same ↦ cond-true (same_place p q) (stored (fewer_names x) (bytes_of old q)) (held_at old q) same
        ∙ stored_less x (bytes_of old q) more
        ∙ subst (λ (r : Place). stored x (bytes_of old r) ≡ held_at old r) (one_place p q same) (sym (held_own old p own ∙ ap (λ (slot : Slot). stored slot (bytes_of old p)) x_is))
    | inr other ↦ cond-false (same_place p q) (stored (fewer_names x) (bytes_of old q)) (held_at old q) other
  ]

  held_by : (b : Bool) → is_data (held_at old p) ≡ b → (q : Place) → held_at new q ≡ (dropped_by b (log_of old) p).held q
  held_by true of_data q =
      elim (cases_Bool (leb (named_at old p) 1)) [
        | inl few ↦ gone_here (let le = leb-true (named_at old p) 1 few in omega (arith, names_p, le)) q ∙ sym (ap (λ (b : Bool). (cond b (without (held_at old) p) (held_at old)) q) few)
        | inr more ↦ stays_here (let lt = leb-false (named_at old p) 1 more in omega (arith, names_p, lt)) q ∙ sym (ap (λ (b : Bool). (cond b (without (held_at old) p) (held_at old)) q) more)
      ]
  held_by false other q = gone_here (let none = ltb-false 0 (named_at old p) (names_are old p ∙ other) in omega (arith, names_p, none)) q

  less_is : (q : Place) → same_place p q ≡ true → data_names (fewer_names x) ≡ named_at old q - 1
  less_is q same = names_less x ∙ ap (λ (n : ℕ). n - 1) (sym names_p ∙ ap (named_at old) (one_place p q same))

  named_less : (q : Place) → named_at new q ≡ with_fewer (named_at old) p q
  named_less q = elim (cases_lt (length S) p.block) [
    | inl past ↦ still_named past q ∙ elim (cases_Bool (same_place p q)) [
      | inl same ↦ let none : named_at old q ≡ 0 = ap (named_at old) (sym (one_place p q same)) ∙ names_p ∙ ap data_names (unused past) in omega (arith, none) ∙ sym (cond-true (same_place p q) (named_at old q - 1) (named_at old q) same)
      | inr other ↦ sym (cond-false (same_place p q) (named_at old q - 1) (named_at old q) other)
    ]
    | inr high ↦ named_less_at (omega (arith, high)) q ∙ elim (cases_Bool (same_place p q)) [
      | inl same ↦ cond-true (same_place p q) (data_names (fewer_names x)) (named_at old q) same ∙ less_is q same ∙ sym (cond-true (same_place p q) (named_at old q - 1) (named_at old q) same)
      | inr other ↦ cond-false (same_place p q) (data_names (fewer_names x)) (named_at old q) other ∙ sym (cond-false (same_place p q) (named_at old q - 1) (named_at old q) other)
    ]
  ]

  fewer_of_none : named_at old p ≡ 0 → (q : Place) → with_fewer (named_at old) p q ≡ named_at old q
  fewer_of_none none q = elim (cases_Bool (same_place p q)) [
    | inl same ↦ let is : named_at old q ≡ 0 = ap (named_at old) (sym (one_place p q same)) ∙ none in cond-true (same_place p q) (named_at old q - 1) (named_at old q) same ∙ omega (arith, is)
    | inr other ↦ cond-false (same_place p q) (named_at old q - 1) (named_at old q) other
  ]

  named_by : (b : Bool) → is_data (held_at old p) ≡ b → (q : Place) → named_at new q ≡ (dropped_by b (log_of old) p).named q
  named_by true of_data q = named_less q
  named_by false other q = named_less q ∙ fewer_of_none (let none = ltb-false 0 (named_at old p) (names_are old p ∙ other) in omega (arith, none)) q

  pub held_dropped : held_at new ≡ (dropped (log_of old) p).held
  held_dropped = fun_ext (λ (q : Place). held_by (is_data (held_at old p)) refl q)

  pub named_dropped : named_at new ≡ (dropped (log_of old) p).named
  named_dropped = fun_ext (λ (q : Place). named_by (is_data (held_at old p)) refl q)

-- ---- one name more

-- a data block that is held has one name more
module _ (old new : Table) (p : Place) (inside : p.frame < length old.slots) (low : 1 ≤ p.block) (own : (frame_at old.seat.frames p.frame).generation ≡ p.generation) (seat : new.seat ≡ old.seat)
    (slots : new.slots ≡ set old.slots p.frame (more_names (slots_at old.slots p.frame) (p.block - 1))) (of_data : is_data (held_at old p) ≡ true) where
  abbrev T : List Slot
  T = slots_at old.slots p.frame

  abbrev y : Slot
  y = get_or T (p.block - 1) no_slot

  abbrev z : Slot
  z = record y { named = 1 + y.named }

  y_is : slot_of old p ≡ y
  y_is = slot_before T p.block low

  y_names : named_at old p ≡ data_names y
  y_names = named_own old p own ∙ ap data_names y_is

  y_some : 0 < data_names y
  y_some = let some = ltb-true 0 (named_at old p) (names_are old p ∙ of_data) in omega (arith, some, y_names)

  y_data : same_kind y.role.kind Data ≡ true
  y_data = elim (cases_Bool (same_kind y.role.kind Data)) [
    | inl is ↦ is
    | inr other ↦ let none : data_names y ≡ 0 = ap (λ (b : Bool). cond b y.named 0) other in let some = y_some in absurd (omega (arith, none, some))
  ]

  y_used : p.block ≤ length T
  y_used = elim (cases_lt (length T) p.block) [
    | inl past ↦ let none : data_names y ≡ 0 = ap data_names (get_or_past T (p.block - 1) no_slot (omega (arith, past, low))) in let some = y_some in absurd (omega (arith, none, some))
    | inr high ↦ omega (arith, high)
  ]

  z_names : data_names z ≡ 1 + data_names y
  z_names = ap (λ (b : Bool). cond b (1 + y.named) 0) y_data ∙ sym (ap (λ (b : Bool). 1 + cond b y.named 0) y_data)

  z_stored : (bytes : List ℕ) → stored z bytes ≡ stored y bytes
  z_stored bytes =
      let held : is_held y ≡ true = (let same : data_names y ≡ y.named = ap (λ (b : Bool). cond b y.named 0) y_data in let some = y_some in lt-ltb 0 y.named (omega (arith, same, some))) in
      let now : is_held z ≡ true = lt-ltb 0 (1 + y.named) (omega arith) in
      ap (λ (b : Bool). cond b (Some (record { kind = y.role.kind; object = y.role.object; bytes = bytes })) None) (now ∙ sym held)

  pub held_more_same : held_at new ≡ held_at old
  held_more_same = fun_ext (λ (q : Place).
      view_changed (λ (k : Frame) (b : ℕ) (slot : Slot). stored slot (block_bytes k.contents b)) None old new p q z inside low y_used own seat slots
      ∙ elim (cases_Bool (same_place p q)) [
        | inl same ↦ cond-true (same_place p q) (stored z (bytes_of old q)) (held_at old q) same ∙ z_stored (bytes_of old q)
            ∙ subst (λ (r : Place). stored y (bytes_of old r) ≡ held_at old r) (one_place p q same) (sym (held_own old p own ∙ ap (λ (slot : Slot). stored slot (bytes_of old p)) y_is))
        | inr other ↦ cond-false (same_place p q) (stored z (bytes_of old q)) (held_at old q) other
      ])

  pub named_more : named_at new ≡ with_more (named_at old) p
  named_more = fun_ext (λ (q : Place).
      view_changed (λ (k : Frame) (b : ℕ) (slot : Slot). data_names slot) 0 old new p q z inside low y_used own seat slots
      ∙ elim (cases_Bool (same_place p q)) [
        | inl same ↦ cond-true (same_place p q) (data_names z) (named_at old q) same ∙ z_names ∙ ap (λ (n : ℕ). 1 + n) (sym y_names ∙ ap (named_at old) (one_place p q same)) ∙ sym (cond-true (same_place p q) (1 + named_at old q) (named_at old q) same)
        | inr other ↦ cond-false (same_place p q) (data_names z) (named_at old q) other ∙ sym (cond-false (same_place p q) (1 + named_at old q) (named_at old q) other)
      ])

-- ---- a block that was put, and what leaves all names

-- the same used blocks at the same generations are named as often
pub named_same : (old new : Table) → ((f : ℕ) → (frame_at new.seat.frames f).generation ≡ (frame_at old.seat.frames f).generation) → new.slots ≡ old.slots → named_at new ≡ named_at old
named_same old new lives slots = fun_ext (λ (q : Place).
    ap (λ (n : ℕ). cond (n == q.generation) (data_names (block_slot (slots_at new.slots q.frame) q.block)) 0) (lives q.frame)
    ∙ ap (λ (l : List (List Slot)). named_block (frame_at old.seat.frames q.frame) (slots_at l q.frame) q.block q.generation) slots)

either_way : (b : Bool) (n : ℕ) → cond b (0 + n) n ≡ n
either_way true n = omega arith
either_way false n = refl

-- a new name of a block of this kind
with_kind : (kind : BlockKind) (named : Place → ℕ) (p q : Place) → named_with kind named p q ≡ cond (same_place p q) (cond (same_kind kind Data) 1 0 + named q) (named q)
with_kind Journal named p q = sym (either_way (same_place p q) (named q))
with_kind Checkpoint named p q = sym (either_way (same_place p q) (named q))
with_kind Data named p q = refl
with_kind Pointers named p q = sym (either_way (same_place p q) (named q))

no_more : (s : List Slot) → block_slot s (length s + 1) ≡ no_slot
no_more s = ap (λ (n : ℕ). block_slot s n) (add-one (length s)) ∙ get_or_past s (length s) no_slot (omega arith)

-- the used blocks of a frame with one more: that one is named, and all others as they were
put_block : (k : Frame) (s : List Slot) (slot : Slot) (b g : ℕ) → named_block k (s ++ slot ∷ []) b g ≡ cond ((length s + 1) == b && k.generation == g) (data_names slot) (named_block k s b g)
put_block k s slot b g = elim (cases_eq b (length s + 1)) [
  | inl at ↦ ap (λ (x : Slot). cond (k.generation == g) (data_names x) 0) (slot_last s slot b at)
      ∙ elim (cases_Bool (k.generation == g)) [
        | inl own ↦ ap (λ (x : Bool). cond x (data_names slot) 0) own
            ∙ sym (ap (λ (x : Bool). cond (x && k.generation == g) (data_names slot) (named_block k s b g)) (eq-eqb (length s + 1) b (sym at))
            ∙ ap (λ (x : Bool). cond x (data_names slot) (named_block k s b g)) own)
        | inr other ↦ ap (λ (x : Bool). cond x (data_names slot) 0) other
            ∙ sym (ap (λ (x : Bool). cond (x && k.generation == g) (data_names slot) (named_block k s b g)) (eq-eqb (length s + 1) b (sym at))
            ∙ ap (λ (x : Bool). cond x (data_names slot) (named_block k s b g)) other
            ∙ ap (λ (x : Bool). cond x (data_names (block_slot s b)) 0) other)
      ]
  | inr ne ↦ ap (λ (x : Slot). cond (k.generation == g) (data_names x) 0) (slot_more s slot b ne)
      ∙ sym (ap (λ (x : Bool). cond (x && k.generation == g) (data_names slot) (named_block k s b g)) (ne_eqb (length s + 1) b (λ (same : length s + 1 ≡ b). ne (sym same))))
]

-- the place of the next block of a frame
abbrev next_of : Table → ℕ → Place
next_of t f = record { frame = f; block = length (slots_at t.slots f) + 1; generation = (frame_at t.seat.frames f).generation }

named_put_at : (old new : Table) (f : ℕ) (slot : Slot) (block : List ℕ) (q : Place) → f < length old.slots → IsPut f slot block old new → named_at new q ≡ cond (same_place (next_of old f) q) (data_names slot) (named_at old q)
named_put_at old new f slot block q inside put =
    let s : List Slot = slots_at old.slots f in
    let k : Frame = frame_at old.seat.frames f in
    ap (λ (n : ℕ). cond (n == q.generation) (data_names (block_slot (slots_at new.slots q.frame) q.block)) 0) (generation_alone old.seat new.seat f q.frame put.alone put.generation)
    ∙ elim (cases_eq q.frame f) [
      | inl at ↦ (let P : ℕ → Type 0 = λ n. named_block (frame_at old.seat.frames n) (slots_at new.slots n) q.block q.generation ≡ cond (f == n && ((length s + 1) == q.block && k.generation == q.generation)) (data_names slot) (named_block (frame_at old.seat.frames n) (slots_at old.slots n) q.block q.generation) in
          let here : slots_at new.slots f ≡ s ++ slot ∷ [] = ap (λ (l : List (List Slot)). slots_at l f) put.slots ∙ get_or-set_same old.slots f (s ++ slot ∷ []) [] inside in
          subst P (sym at)
          (ap (λ (l : List Slot). named_block k l q.block q.generation) here
          ∙ put_block k s slot q.block q.generation
          ∙ sym (ap (λ (x : Bool). cond (x && ((length s + 1) == q.block && k.generation == q.generation)) (data_names slot) (named_block k s q.block q.generation)) (eq-eqb f f refl))))
      | inr ne ↦ ap (λ (l : List (List Slot)). named_block (frame_at old.seat.frames q.frame) (slots_at l q.frame) q.block q.generation) put.slots
          ∙ ap (λ (l : List Slot). named_block (frame_at old.seat.frames q.frame) l q.block q.generation) (get_or-set_other old.slots f q.frame (s ++ slot ∷ []) [] ne)
          ∙ sym (ap (λ (x : Bool). cond (x && ((length s + 1) == q.block && k.generation == q.generation)) (data_names slot) (named_at old q)) (ne_eqb f q.frame (λ (same : f ≡ q.frame). ne (sym same))))
    ]

-- nothing names the next block of a frame yet
unnamed_next : (t : Table) (f : ℕ) (q : Place) → same_place (next_of t f) q ≡ true → named_at t q ≡ 0
unnamed_next t f q same =
    ap (named_at t) (sym (one_place (next_of t f) q same))
    ∙ cond-true ((frame_at t.seat.frames f).generation == (frame_at t.seat.frames f).generation) (data_names (block_slot (slots_at t.slots f) (length (slots_at t.slots f) + 1))) 0 (eq-eqb (frame_at t.seat.frames f).generation (frame_at t.seat.frames f).generation refl)
    ∙ ap data_names (no_more (slots_at t.slots f))

pub named_put : (old new : Table) (f : ℕ) (role : BlockRole) (block : List ℕ) → f < length old.slots → IsPut f (record { role = role; named = 1 }) block old new
    → named_at new ≡ named_with role.kind (named_at old) (next_of old f)
named_put old new f role block inside put = fun_ext (λ (q : Place).
    named_put_at old new f (record { role = role; named = 1 }) block q inside put
    ∙ elim (cases_Bool (same_place (next_of old f) q)) [
      | inl same ↦
          let none = unnamed_next old f q same in
          cond-true (same_place (next_of old f) q) (cond (same_kind role.kind Data) 1 0) (named_at old q) same
          ∙ omega (arith, none)
          ∙ sym (cond-true (same_place (next_of old f) q) (cond (same_kind role.kind Data) 1 0 + named_at old q) (named_at old q) same)
      | inr other ↦ cond-false (same_place (next_of old f) q) (cond (same_kind role.kind Data) 1 0) (named_at old q) other
          ∙ sym (cond-false (same_place (next_of old f) q) (cond (same_kind role.kind Data) 1 0 + named_at old q) (named_at old q) other)
    ]
    ∙ sym (with_kind role.kind (named_at old) (next_of old f) q))
