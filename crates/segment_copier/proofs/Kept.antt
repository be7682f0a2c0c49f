-- What planned and copied moves keep.
use Rattle.std.proofs.Common.{◌≡◌, ℕ, ◌+◌, ◌<◌, ◌==◌, true, cond, List, [], ◌∷◌, ◌++◌, length, get_or, take, map, sym, ap, subst, ◌∙◌, arith}
use Rattle.std.specs.List.{AllByRecursion}
use Rattle.std.proofs.lemmas.Bool.{eq-eqb, cond-true}
use Rattle.std.proofs.lemmas.List.{take_more, map-append}
use Rattle.s4_types.specs.Pointer.{Place}
use Rattle.segment_word.specs.Frames.{Pinned}
use Rattle.atomic_table.specs.Seated.{TableId}
use Rattle.segment_word.specs.Handles.{Held, Remembered, pin_of}
use Rattle.segment_word.specs.Layout.{block_bytes}
use Rattle.segment_word.specs.Counting.{pins_in}
use Rattle.time_read.specs.Plans.{contents_pinned}
use Rattle.version_store.specs.declared.copies.CopiedBlock.{CopiedBlock}
use Rattle.segment_table.specs.Table.{Table}
use Rattle.segment_table.specs.Laws.{WhatIsListedIsHeld}
use Rattle.segment_copier.specs.Moves.{IsPlaceIn, IsCopyFrom, IsPinOver, IsMemoryOver, copies_of, data_in}
use Rattle.segment_copier.proofs.Listed.{one_at, data_inside}

-- ---- pins

-- the one pin is of its frame
one_counted : (q : Pinned) (f : ℕ) → f ≡ q.number → 0 < pins_in f (q ∷ [])
one_counted q f e =
    let here : (q.number == f) ≡ true = eq-eqb q.number f (sym e) in
    let one : ◌≡◌ {A = ℕ} (cond (q.number == f) 1 0) 1 = cond-true {A = ℕ} (q.number == f) 1 0 here in
    omega (arith, one)

one_contents : (q : Pinned) (f : ℕ) → f ≡ q.number → contents_pinned f (q ∷ []) ≡ q.contents
one_contents q f e =
    let here : (q.number == f) ≡ true = eq-eqb q.number f (sym e) in
    cond-true (q.number == f) q.contents (contents_pinned f []) here

-- ---- places

-- of places that are counted on, the one of an index is
pub counted_at : (pins : List Pinned) (places : List Place) (i : ℕ) (p : Place) → AllByRecursion (λ q. (0 < pins_in q.frame pins) × (q.block < 16)) places → i < length places → p ≡ get_or places i p
    → (0 < pins_in p.frame pins) × (p.block < 16)
counted_at pins places i p all below at =
    one_at (λ q. (0 < pins_in q.frame pins) × (q.block < 16)) places i p all below at

pub all_counted : (q : Pinned) (pins : List Pinned) (places : List Place) → pins ≡ q ∷ [] → AllByRecursion (IsPlaceIn q) places
    → AllByRecursion (λ p. (0 < pins_in p.frame pins) × (p.block < 16)) places
all_counted q pins [] alone inside = tt
all_counted q pins (p ∷ places) alone inside =
    ((subst (λ (l : List Pinned). 0 < pins_in p.frame l) (sym alone) (one_counted q p.frame inside.0.0), inside.0.1.1), all_counted q pins places alone inside.1)

pub all_copied : (q : Pinned) (pins : List Pinned) (places : List Place) → pins ≡ q ∷ [] → AllByRecursion (IsPlaceIn q) places → AllByRecursion (IsCopyFrom q) (copies_of pins places)
all_copied q pins [] alone inside = tt
all_copied q pins (p ∷ places) alone inside =
    let is : contents_pinned p.frame pins ≡ q.contents = ap (contents_pinned p.frame) alone ∙ one_contents q p.frame inside.0.0 in
    ((inside.0, ap (λ (c : List ℕ). block_bytes c p.block) is), all_copied q pins places alone inside.1)

-- one more block is copied
pub one_more : (copy : Place → CopiedBlock) (places : List Place) (i : ℕ) (p : Place) (this : CopiedBlock) (copies : List CopiedBlock) → i < length places → p ≡ get_or places i p
    → copies ≡ map copy (take i places) → this ≡ copy p → copies ++ this ∷ [] ≡ map copy (take (i + 1) places)
one_more copy places i p this copies h at so is =
    ap (λ (l : List CopiedBlock). l ++ this ∷ []) so
    ∙ ap (λ (c : CopiedBlock). map copy (take i places) ++ c ∷ []) is
    ∙ ap (λ (q : Place). map copy (take i places) ++ copy q ∷ []) at
    ∙ sym (ap (map copy) (take_more places i p h) ∙ map-append copy (take i places) (get_or places i p ∷ []))

-- a plan with a pin on its frame keeps its places
pub pin_over : (law : WhatIsListedIsHeld) (t : Table) (o f : ℕ) (frames : TableId) (places : List Place) (held : Held) → held.table ≡ frames → held.pins ≡ pin_of t.seat.frames f ∷ [] → places ≡ data_in t o f
    → IsPinOver frames places held
pin_over law t o f frames places held table pins is = record {
  table = table;
  pinned = pin_of t.seat.frames f;
  alone = pins;
  inside = subst (λ (l : List Place). AllByRecursion (IsPlaceIn (pin_of t.seat.frames f)) l) (sym is) (data_inside law t o f);
}

-- copies by such a pin are from what is remembered of it
pub memory_over : (frames : TableId) (places : List Place) (held : Held) (copies : List CopiedBlock) (memory : Remembered) → IsPinOver frames places held
    → copies ≡ copies_of held.pins places → memory ≡ record { table = held.table; remembered = held.pins } → IsMemoryOver frames copies memory
memory_over frames places held copies memory over is remembered = record {
  table = ap (λ (m : Remembered). m.table) remembered ∙ over.table;
  pinned = over.pinned;
  alone = ap (λ (m : Remembered). m.remembered) remembered ∙ over.alone;
  inside = subst (λ (l : List CopiedBlock). AllByRecursion (IsCopyFrom over.pinned) l) (sym is) (all_copied over.pinned held.pins places over.alone over.inside);
}
