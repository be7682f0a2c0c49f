-- How many places name a block, and how many blocks of a frame are held: by the used blocks.
use Rattle.std.proofs.Common.{◌≡◌, ℕ, zero, suc, ◌+◌, ◌≤◌, Bool, true, false, cond, ltb, ◌==◌, List, [], ◌∷◌, length, get_or, count_by, is_some, Some, None, refl, sym, ap, ◌∙◌, arith}
use Rattle.std.proofs.lemmas.List.{get_or_past}
use Rattle.std.proofs.lemmas.List.Sums.{sum_by-cons}
use Rattle.std.proofs.lemmas.Bool.{eq-eqb, lt-ltb}
use Rattle.s4_types.specs.Pointer.{Place}
use Rattle.block_log.specs.declared.kinds.BlockKind.TheVariants.{Data}
use Rattle.block_log.specs.Log.{Stored, same_kind}
use Rattle.codec.specs.Fields.{bit}
use Rattle.segment_word.specs.Frames.{Frame}
use Rattle.segment_word.specs.Layout.{frame_at, block_bytes}
use Rattle.segment_table.specs.declared.slots.Slot.{Slot}
use Rattle.segment_table.specs.Slots.{no_slot, is_held, data_names}
use Rattle.segment_table.specs.Table.{Table, slots_at, block_slot, stored, held_block, named_block, held_at}
use Rattle.segment_table.specs.Room.{places}
use Rattle.segment_table.specs.Counts.{slot_names, held_names, name_count, held_count}

not_named : (n : ℕ) → ltb 0 n ≡ false → n ≡ 0
not_named zero is = refl
not_named (suc n) is = absurd (let yes : ltb 0 (suc n) ≡ true = lt-ltb 0 (suc n) (omega arith) in cc)

-- what a used block adds, and what is seen of it as held
names_by : (of_data held : Bool) (slot : Slot) (bytes : List ℕ) → same_kind slot.role.kind Data ≡ of_data → is_held slot ≡ held → slot_names slot ≡ held_names (stored slot bytes) (data_names slot)
names_by true true slot bytes kind held =
    ap (λ (b : Bool). cond b slot.named (cond (is_held slot) 1 0)) kind
    ∙ sym (ap (λ (b : Bool). held_names (cond b (Some (record { kind = slot.role.kind; object = slot.role.object; bytes = bytes })) None) (data_names slot)) held
    ∙ ap (λ (b : Bool). cond b (cond b slot.named 0) 1) kind)
names_by true false slot bytes kind held =
    ap (λ (b : Bool). cond b slot.named (cond (is_held slot) 1 0)) kind
    ∙ not_named slot.named held
    ∙ sym (ap (λ (b : Bool). held_names (cond b (Some (record { kind = slot.role.kind; object = slot.role.object; bytes = bytes })) None) (data_names slot)) held)
names_by false true slot bytes kind held =
    ap (λ (b : Bool). cond b slot.named (cond (is_held slot) 1 0)) kind
    ∙ ap (λ (b : Bool). cond b 1 0) held
    ∙ sym (ap (λ (b : Bool). held_names (cond b (Some (record { kind = slot.role.kind; object = slot.role.object; bytes = bytes })) None) (data_names slot)) held
    ∙ ap (λ (b : Bool). cond b (cond b slot.named 0) 1) kind)
names_by false false slot bytes kind held =
    ap (λ (b : Bool). cond b slot.named (cond (is_held slot) 1 0)) kind
    ∙ ap (λ (b : Bool). cond b 1 0) held
    ∙ sym (ap (λ (b : Bool). held_names (cond b (Some (record { kind = slot.role.kind; object = slot.role.object; bytes = bytes })) None) (data_names slot)) held)

own : (k : Frame) → (k.generation == k.generation) ≡ true
own k = eq-eqb k.generation k.generation refl

block_names : (k : Frame) (s : List Slot) (b : ℕ) → slot_names (block_slot s b) ≡ held_names (held_block k s b k.generation) (named_block k s b k.generation)
block_names k s b =
    names_by (same_kind (block_slot s b).role.kind Data) (is_held (block_slot s b)) (block_slot s b) (block_bytes k.contents b) refl refl
    ∙ sym (ap (λ (x : Bool). held_names (cond x (stored (block_slot s b) (block_bytes k.contents b)) None) (cond x (data_names (block_slot s b)) 0)) (own k))

-- this many places name a block of a frame
pub name_count_is : (t : Table) (f b : ℕ) → slot_names (block_slot (slots_at t.slots f) b) ≡ name_count t f b
name_count_is t f b = block_names (frame_at t.seat.frames f) (slots_at t.slots f) b

unused_names : (b : ℕ) → slot_names (block_slot [] b) ≡ 0
unused_names zero = refl
unused_names (suc b) = refl

-- none where no such frame is there
pub no_frame_named : (t : Table) (f b : ℕ) → length t.slots ≤ f → name_count t f b ≡ 0
no_frame_named t f b past = sym (name_count_is t f b) ∙ ap (λ (s : List Slot). slot_names (block_slot s b)) (get_or_past t.slots f [] past) ∙ unused_names b

some_stored : (slot : Slot) (bytes : List ℕ) (held : Bool) → is_held slot ≡ held → is_some (stored slot bytes) ≡ held
some_stored slot bytes true is = ap (λ (b : Bool). is_some {T = Stored} (cond b (Some (record { kind = slot.role.kind; object = slot.role.object; bytes = bytes })) None)) is
some_stored slot bytes false is = ap (λ (b : Bool). is_some {T = Stored} (cond b (Some (record { kind = slot.role.kind; object = slot.role.object; bytes = bytes })) None)) is

some_block : (k : Frame) (s : List Slot) (b : ℕ) → is_some (held_block k s b k.generation) ≡ is_held (block_slot s b)
some_block k s b =
    ap (λ (x : Bool). is_some (cond x (stored (block_slot s b) (block_bytes k.contents b)) None)) (own k)
    ∙ some_stored (block_slot s b) (block_bytes k.contents b) (is_held (block_slot s b)) refl

-- the held ones of n blocks are those of the used ones from there on
counted : (test : Place → Bool) (f g b n : ℕ) (s : List Slot) → ((i : ℕ) → test (record { frame = f; block = b + i; generation = g }) ≡ is_held (get_or s i no_slot)) → length s ≤ n
    → count_by test (places f g b n) ≡ count_by (λ (slot : Slot). is_held slot) s
unfolding places
counted test f g b zero [] each few = refl
counted test f g b zero (x ∷ s) each few = absurd (omega (arith, few))
counted test f g b (suc n) [] each few =
    let here : test (record { frame = f; block = b; generation = g }) ≡ false = ap (λ (m : ℕ). test (record { frame = f; block = m; generation = g })) (omega arith) ∙ each 0 in
    let rest = counted test f g (b + 1) n [] (λ i. ap (λ (m : ℕ). test (record { frame = f; block = m; generation = g })) (omega arith) ∙ each (i + 1)) (omega arith) in
    sum_by-cons (λ (p : Place). cond (test p) 1 0) (record { frame = f; block = b; generation = g }) (places f g (b + 1) n)
    ∙ (let none : bit (test (record { frame = f; block = b; generation = g })) ≡ 0 = ap bit here in omega (arith, none, rest))
counted test f g b (suc n) (x ∷ s) each few =
    let here : test (record { frame = f; block = b; generation = g }) ≡ is_held x = ap (λ (m : ℕ). test (record { frame = f; block = m; generation = g })) (omega arith) ∙ each 0 in
    let rest = counted test f g (b + 1) n s (λ i. ap (λ (m : ℕ). test (record { frame = f; block = m; generation = g })) (omega arith) ∙ each (suc i)) (omega (arith, few)) in
    sum_by-cons (λ (p : Place). cond (test p) 1 0) (record { frame = f; block = b; generation = g }) (places f g (b + 1) n)
    ∙ (let one : bit (test (record { frame = f; block = b; generation = g })) ≡ bit (is_held x) = ap bit here in
    let cons = sum_by-cons (λ (slot : Slot). cond (is_held slot) 1 0) x s in
    omega (arith, one, rest, cons))

-- as many blocks of a frame are held as used ones of it are
pub held_count_is : (t : Table) (f : ℕ) → length (slots_at t.slots f) ≤ 15 → count_by (λ (slot : Slot). is_held slot) (slots_at t.slots f) ≡ held_count t f
held_count_is t f few =
    let k : Frame = frame_at t.seat.frames f in
    let s : List Slot = slots_at t.slots f in
    sym (counted (λ p. is_some (held_at t p)) f k.generation 1 15 s
    (λ i. ap (λ (m : ℕ). is_some (held_block k s m k.generation)) (let e : 1 + i ≡ suc i = omega arith in e) ∙ some_block k s (suc i)) few)

-- none where no such frame is there
pub no_frame_held : (t : Table) (f : ℕ) → length t.slots ≤ f → held_count t f ≡ 0
no_frame_held t f past =
    let none : slots_at t.slots f ≡ [] = get_or_past t.slots f [] past in
    let zero_long : length (slots_at t.slots f) ≡ 0 = ap length none in
    sym (held_count_is t f (omega (arith, zero_long))) ∙ ap (count_by (λ (slot : Slot). is_held slot)) none
