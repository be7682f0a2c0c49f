-- What holds of copies that are put in place, and of the frame that they left.
use Rattle.std.proofs.Common.{◌≡◌, ◌⊎◌, inl, inr, ℕ, zero, suc, ◌+◌, ◌<◌, ◌≤◌, ◌==◌, ◌&&◌, Bool, true, false, cond, if◌then◌else◌, List, [], ◌∷◌, length, take, map, filter, refl, sym, ap, subst, ◌∙◌, Option, Some, None, arith}
use Rattle.std.specs.Prelude.{IsSome, IfSome, IfErr, OnOk, MatchResult, Result, Ok, Err}
use Rattle.s4_types.specs.declared.refusals.Refusal.{Refusal}
use Rattle.s4_types.specs.declared.refusals.Refusal.TheVariants.{NoMemory, NoRoom}
use Rattle.row_changes.specs.Moving.{row_blocks}
use Rattle.std.specs.List.{AllByRecursion, Contains}
use Rattle.std.proofs.lemmas.Bool.{cases_Bool, and_parts, eq-eqb, eqb-true, le-leb, and_from}
use Rattle.std.proofs.lemmas.List.Elements.{All-from_recursion, All-contains}
use Rattle.std.proofs.lemmas.List.{length-map}
use Rattle.s4_types.specs.Pointer.{Place}
use Rattle.block_log.specs.declared.kinds.BlockKind.{BlockKind}
use Rattle.block_log.specs.declared.kinds.BlockKind.TheVariants.{Journal, Checkpoint, Data, Pointers}
use Rattle.block_log.specs.Log.{Stored, same_kind, seen_as, of_kind}
use Rattle.object_map.specs.declared.map.Row.{Row}
use Rattle.atomic_table.specs.Seated.{TableId}
use Rattle.lemmas.proofs.Contains.{contains_filter, contains_map}
use Rattle.segment_word.specs.Handles.{Remembered}
use Rattle.segment_word.specs.Frames.{Frame, Pinned, is_sealed}
use Rattle.segment_word.specs.FrameRule.{AllRemembered, IsRemembered}
use Rattle.segment_word.specs.Layout.{frame_at, block_bytes}
use Rattle.segment_table.specs.declared.slots.Slot.{Slot}
use Rattle.segment_table.specs.Slots.{is_held}
use Rattle.segment_table.specs.Table.{Table, slots_at, block_slot, stored, held_at, is_of}
use Rattle.segment_table.specs.Room.{places, whole_of, places_ahead, pointers_in}
use Rattle.segment_table.specs.Laws.{IsListed, WhatIsListedIsHeld, ListsAllHeld, PlacesAheadAreInNoSealedFrame}
use Rattle.checkpoint.specs.Held.{seen_of as checkpoint_seen}
use Rattle.checkpoint.proofs.OwnBlocks.{first_is_seen, part_is_seen}
use Rattle.segment_table.proofs.Listing.{of_some}
use Rattle.chain_rewriting.specs.Renaming.{is_in}
use Rattle.version_store.specs.declared.copies.CopiedBlock.{CopiedBlock}
use Rattle.version_store.specs.Relocating.{AreCopies, IsRelocated, frame_of_copies, blocks_ascend_from, blocks_relocated}
use Rattle.version_store.proofs.Appending.{ascend_weaker}
use Rattle.drive.specs.Fields.{DriveFields, store_of}
use Rattle.interleaving.specs.Moving.{HoldsNone}
use Rattle.segment_copier.specs.Moves.{is_data, data_in, IsMemoryOver, IsCopyFrom}
use Rattle.segment_copier.specs.Commits.{copy_at, copies_in, IsMovedBy, blocks_moved}
use Rattle.segment_copier.specs.private.Copying.{IsTrueIn}
use Rattle.segment_copier.proofs.Listed.{all_of, data_listed}

-- ---- lists

-- what is among the images is the image of something
record IsImage (X : Type 0) (Y : Type 0) (h : X → Y) (xs : List X) (y : Y) : Type 0 where
  pub from : X
  pub has : Contains xs from
  pub is : h from ≡ y

image : {X Y : Type 0} (h : X → Y) (xs : List X) (y : Y) → Contains (map h xs) y → IsImage X Y h xs y
image h [] y (k, at, e) = absurd (omega arith)
image h (x ∷ xs) y (zero, at, e) = record { from = x; has = (0, omega arith, refl); is = e }
image h (x ∷ xs) y (suc k, at, e) =
    let rest = image h xs y (k, omega arith, e) in
    let has = rest.has in
    let inside : has.0 < length xs = has.1 in
    record { from = rest.from; has = (suc has.0, omega arith, has.2); is = rest.is }

taken_has : {X : Type 0} (n : ℕ) (x : X) (xs : List X) → Contains (take n xs) x → Contains xs x
taken_has zero x xs (k, at, e) = absurd (omega arith)
taken_has (suc n) x [] (k, at, e) = absurd (omega arith)
taken_has (suc n) x (y ∷ ys) (zero, at, e) = (0, omega arith, e)
taken_has (suc n) x (y ∷ ys) (suc k, at, e) =
    let rest = taken_has n x ys (k, omega arith, e) in
    let inside : rest.0 < length ys = rest.1 in
    (suc rest.0, omega arith, rest.2)

-- ---- all that is there

-- copies are of just the data blocks that an object holds in a frame, which is sealed
pub record AreAll (t : Table) (f o : ℕ) (copies : List CopiedBlock) : Type 0 where
  pub sealed : is_sealed (frame_at t.seat.frames f).phase ≡ true
  pub all : copies ≡ copies_in t o f

places_of : (t : Table) (places : List Place) → map (λ c. c.place) (map (copy_at t) places) ≡ places
places_of t [] = refl
places_of t (p ∷ places) = ap (λ (l : List Place). p ∷ l) (places_of t places)

pub places_all : (t : Table) (f o : ℕ) (copies : List CopiedBlock) → AreAll t f o copies → map (λ c. c.place) copies ≡ data_in t o f
places_all t f o copies there = ap (map (λ (c : CopiedBlock). c.place)) there.all ∙ places_of t (data_in t o f)

-- ---- copies

in_one_frame : (c d : CopiedBlock) (copies : List CopiedBlock) → d.place.frame ≡ c.place.frame → d.place.generation ≡ c.place.generation → is_in (frame_of_copies (c ∷ copies)) d.place ≡ true
in_one_frame c d copies frame generation = and_from _ _ (eq-eqb _ _ frame) (eq-eqb _ _ generation)

-- the places of copies, where all are of one frame at one generation
all_in : (f g : ℕ) (copies : List CopiedBlock) → ((c : CopiedBlock) → Contains copies c → (c.place.frame ≡ f) × (c.place.generation ≡ g)) → AllByRecursion (λ c. is_in (frame_of_copies copies) c.place ≡ true) copies
all_in f g [] each = tt
all_in f g (c ∷ copies) each = all_of (λ d. is_in (frame_of_copies (c ∷ copies)) d.place ≡ true) (c ∷ copies)
    (λ d has. (let first = each c (0, omega arith, refl) in
    let this = each d has in
    in_one_frame c d copies (this.0 ∙ sym first.0) (this.1 ∙ sym first.1)))

-- one more place, and those after it
one_first : (p : Place) (copies : List CopiedBlock) (behind : List Place) (b : ℕ) → p.block ≡ b
    → ((later : List CopiedBlock) → map (λ c. c.place) later ≡ behind → blocks_ascend_from (b + 1) later ≡ true)
    → map (λ c. c.place) copies ≡ p ∷ behind → blocks_ascend_from b copies ≡ true
one_first p [] behind b at rest e = refl
one_first p (c ∷ copies) behind b at rest e =
    let first : c.place ≡ p = (cc) in
    let later : map (λ (d : CopiedBlock). d.place) copies ≡ behind = (cc) in
    let block : c.place.block ≡ b = ap (λ (q : Place). q.block) first ∙ at in
    let next : b + 1 ≡ suc c.place.block = omega arith in
    and_from _ _ (le-leb b c.place.block (omega arith)) (subst (λ (n : ℕ). blocks_ascend_from n copies ≡ true) next (rest copies later))

ascending : (one two : Place → Bool) (f g b n : ℕ) (copies : List CopiedBlock) → map (λ c. c.place) copies ≡ filter two (filter one (places f g b n)) → blocks_ascend_from b copies ≡ true
unfolding places
ascending one two f g b zero [] e = refl
ascending one two f g b zero (c ∷ copies) e = absurd (cc)
ascending one two f g b (suc n) copies e =
    let p : Place = record { frame = f; block = b; generation = g } in
    let behind : List Place = filter one (places f g (b + 1) n) in
    let rest : (later : List CopiedBlock) → map (λ (c : CopiedBlock). c.place) later ≡ filter two behind → blocks_ascend_from (b + 1) later ≡ true = ascending one two f g (b + 1) n in
    elim (cases_Bool (one p)) [
      | inl passes ↦ (let here : map (λ (c : CopiedBlock). c.place) copies ≡ filter two (p ∷ behind) = e ∙ ap (λ (x : Bool). filter two (cond x (p ∷ behind) behind)) passes in
          elim (cases_Bool (two p)) [
            | inl is ↦ one_first p copies (filter two behind) b refl rest (here ∙ ap (λ (x : Bool). cond x (p ∷ filter two behind) (filter two behind)) is)
            | inr other ↦ ascend_weaker b (b + 1) copies (omega arith) (rest copies (here ∙ ap (λ (x : Bool). cond x (p ∷ filter two behind) (filter two behind)) other))
          ])
      | inr fails ↦ ascend_weaker b (b + 1) copies (omega arith) (rest copies (e ∙ ap (λ (x : Bool). filter two (cond x (p ∷ behind) behind)) fails))
    ]

still_ascending : (t : Table) (f o : ℕ) (copies : List CopiedBlock) → AreAll t f o copies → blocks_ascend_from 1 copies ≡ true
still_ascending t f o copies there =
    let one : Place → Bool = λ p. is_of o (held_at t p) in
    let two : Place → Bool = λ p. is_data (held_at t p) in
    let sealed : is_sealed (frame_at t.seat.frames f).phase ≡ true = there.sealed in
    let is : map (λ (c : CopiedBlock). c.place) copies ≡ filter two (filter one (whole_of t f)) = places_all t f o copies there ∙ ap (λ (b : Bool). filter two (if b then filter one (whole_of t f) else [])) sealed in
    ascending one two f (frame_at t.seat.frames f).generation 1 15 copies is

-- ---- bytes

-- the bytes of a held block are those of its frame
held_bytes : (t : Table) (p : Place) → IfSome (held_at t p) (λ block. block.bytes ≡ block_bytes (frame_at t.seat.frames p.frame).contents p.block)
held_bytes t p =
    let k : Frame = frame_at t.seat.frames p.frame in
    let slot : Slot = block_slot (slots_at t.slots p.frame) p.block in
    let bytes : List ℕ = block_bytes k.contents p.block in
    let IsIts : Option Stored → Type 0 = λ held. IfSome held (λ block. block.bytes ≡ bytes) in
    elim (cases_Bool (k.generation == p.generation)) [
      | inl current ↦ subst (λ (b : Bool). IsIts (if b then stored slot bytes else None)) (sym current)
          (elim (cases_Bool (is_held slot)) [
            | inl held ↦ subst (λ (b : Bool). IsIts (if b then Some (record { kind = slot.role.kind; object = slot.role.object; bytes = bytes }) else None)) (sym held) refl
            | inr gone ↦ subst (λ (b : Bool). IsIts (if b then Some (record { kind = slot.role.kind; object = slot.role.object; bytes = bytes }) else None)) (sym gone) tt
          ])
      | inr older ↦ subst (λ (b : Bool). IsIts (if b then stored slot bytes else None)) (sym older) tt
    ]

seen_data : (o : ℕ) (held : Option Stored) (bytes : List ℕ) → is_of o held ≡ true → is_data held ≡ true → IfSome held (λ block. block.bytes ≡ bytes) → seen_as Data o held ≡ Some bytes
seen_data o None bytes mine kind is = absurd (cc)
seen_data o (Some block) bytes mine kind is =
    ap (λ (b : Bool). if b then Some block.bytes else None) (and_from (same_kind Data block.kind) (block.object == o) kind mine) ∙ ap (λ (l : List ℕ). Some l) is

among : (P : CopiedBlock → Type 0) (copies : List CopiedBlock) (c : CopiedBlock) → AllByRecursion P copies → Contains copies c → P c
among P copies c all has = All-contains P copies c (All-from_recursion P copies all) has

still_listed : (listed : WhatIsListedIsHeld) (t : Table) (f o : ℕ) (copies : List CopiedBlock) (c : CopiedBlock) → AreAll t f o copies → Contains copies c
    → IsListed t o f c.place × (is_data (held_at t c.place) ≡ true)
still_listed listed t f o copies c there has =
    data_listed listed t o f c.place (subst (λ (l : List Place). Contains l c.place) (places_all t f o copies there) (contains_map (λ (d : CopiedBlock). d.place) copies c has))

-- they have the bytes of their places
still_bytes : (t : Table) (f o : ℕ) (copies : List CopiedBlock) (c : CopiedBlock) → AreAll t f o copies → Contains copies c → (copy_at t c.place).bytes ≡ c.bytes
still_bytes t f o copies c there has =
    let from = image (copy_at t) (data_in t o f) c (subst (λ (l : List CopiedBlock). Contains l c) there.all has) in
    subst (λ (x : CopiedBlock). (copy_at t x.place).bytes ≡ x.bytes) from.is refl

-- they are copies of what the frame holds
pub still_copies : (listed : WhatIsListedIsHeld) (t : Table) (f o : ℕ) (copies : List CopiedBlock) → AreAll t f o copies → AreCopies (held_at t) o copies
still_copies listed t f o copies there = record {
  frame = all_in f (frame_at t.seat.frames f).generation copies (λ c has. (let here = (still_listed listed t f o copies c there has).0 in (here.frame, here.generation)));
  ascending = still_ascending t f o copies there;
  bytes = all_of (λ c. of_kind Data o (held_at t) c.place ≡ Some c.bytes) copies
      (λ c has. (let both = still_listed listed t f o copies c there has in
      seen_data o (held_at t c.place) c.bytes both.0.held both.1
      (subst (λ (l : List ℕ). IfSome (held_at t c.place) (λ block. block.bytes ≡ l)) (still_bytes t f o copies c there has) (held_bytes t c.place))));
}

-- ---- copies that were made

abbrev nothing_at : Table → Place → Option Stored
nothing_at t p = None

-- a block is held at the generation of its frame
held_now : (t : Table) (p : Place) → IsSome (held_at t p) → (frame_at t.seat.frames p.frame).generation ≡ p.generation
held_now t p some =
    let k : Frame = frame_at t.seat.frames p.frame in
    elim (cases_Bool (k.generation == p.generation)) [
      | inl current ↦ eqb-true k.generation p.generation current
      | inr older ↦ (let none : IsSome (nothing_at t p) = subst (λ (b : Bool). IsSome (if b then stored (block_slot (slots_at t.slots p.frame) p.block) (block_bytes k.contents p.block) else None)) older some in absurd (cc))
    ]

-- what is remembered of copies shows that they are true
pub true_copies : (t : Table) (copies : List CopiedBlock) (table : TableId) (m : Remembered) → IsMemoryOver table copies m → AllRemembered t.seat.frames m.remembered → AllByRecursion (IsTrueIn t) copies
true_copies t copies table m memory recalled =
    let q : Pinned = memory.pinned in
    let true_of : IsRemembered t.seat.frames q = subst (λ (l : List Pinned). AllRemembered t.seat.frames l) memory.alone recalled 0 q refl in
    all_of (IsTrueIn t) copies (λ c has held.
    (let from : IsCopyFrom q c = among (IsCopyFrom q) copies c memory.inside has in
    let generation : q.generation ≡ (frame_at t.seat.frames q.number).generation =
    sym from.0.1.0 ∙ sym (held_now t c.place held) ∙ ap (λ (n : ℕ). (frame_at t.seat.frames n).generation) from.0.0 in
    let contents : q.contents ≡ (frame_at t.seat.frames q.number).contents = (true_of.same generation).contents in
    from.1 ∙ ap (λ (l : List ℕ). block_bytes l c.place.block) contents ∙ ap (λ (n : ℕ). block_bytes (frame_at t.seat.frames n).contents c.place.block) (sym from.0.0)))

-- what is listed as data is held
pub data_held : (listed : WhatIsListedIsHeld) (t : Table) (o f : ℕ) → AllByRecursion (λ p. IsSome (held_at t p)) (data_in t o f)
data_held listed t o f = all_of (λ p. IsSome (held_at t p)) (data_in t o f) (λ p has. of_some o (held_at t p) (data_listed listed t o f p has).0.held)

with_first : (c d : CopiedBlock) (one two : List CopiedBlock) → c ≡ d → one ≡ two → c ∷ one ≡ d ∷ two
with_first c d one two first rest = ap (λ (x : CopiedBlock). x ∷ one) first ∙ ap (λ (l : List CopiedBlock). d ∷ l) rest

-- true copies of places at which blocks are held are those of these blocks
pub same_copies : (t : Table) (copies : List CopiedBlock) (places : List Place) → AllByRecursion (IsTrueIn t) copies → AllByRecursion (λ p. IsSome (held_at t p)) places → map (λ c. c.place) copies ≡ places
    → copies ≡ map (copy_at t) places
same_copies t [] [] are held is = refl
same_copies t [] (p ∷ places) are held is = absurd (cc)
same_copies t (c ∷ copies) [] are held is = absurd (cc)
same_copies t (c ∷ copies) (p ∷ places) are held is =
    let first : c.place ≡ p = (cc) in
    let later : map (λ (d : CopiedBlock). d.place) copies ≡ places = (cc) in
    let bytes : c.bytes ≡ (copy_at t c.place).bytes = are.0 (subst (λ (q : Place). IsSome (held_at t q)) (sym first) held.0) in
    let this : c ≡ copy_at t p = ap (λ (l : List ℕ). record { place = c.place; bytes = l }) bytes ∙ ap (copy_at t) first in
    with_first c (copy_at t p) copies (map (copy_at t) places) this (same_copies t copies places are.1 held.1 later)

-- ---- the frame that is left

kind_is : (kind : BlockKind) → (same_kind Journal kind ≡ true) ⊎ (((same_kind Checkpoint kind ≡ true) ⊎ (same_kind Pointers kind ≡ true)) ⊎ (same_kind Data kind ≡ true))
kind_is Journal = inl refl
kind_is Checkpoint = inr (inl (inl refl))
kind_is Pointers = inr (inl (inr refl))
kind_is Data = inr (inr refl)

pub seen : (kind : BlockKind) (o : ℕ) (block : Stored) → same_kind kind block.kind ≡ true → (block.object == o) ≡ true → IsSome (seen_as kind o (Some block))
seen kind o block is mine = subst (λ (b : Bool). IsSome (if b then Some block.bytes else None)) (sym (and_from _ _ is mine)) refl

-- a block of an object is one of its journal, of its checkpoints or of its data
pub seen_of : (o : ℕ) (held : Option Stored) → is_of o held ≡ true → IsSome (seen_as Journal o held) ⊎ ((IsSome (seen_as Checkpoint o held) ⊎ IsSome (seen_as Pointers o held)) ⊎ IsSome (seen_as Data o held))
seen_of o None mine = absurd (cc)
seen_of o (Some block) mine = elim (kind_is block.kind) [
  | inl is ↦ inl (seen Journal o block is mine)
  | inr (inl (inl is)) ↦ inr (inl (inl (seen Checkpoint o block is mine)))
  | inr (inl (inr is)) ↦ inr (inl (inr (seen Pointers o block is mine)))
  | inr (inr is) ↦ inr (inr (seen Data o block is mine))
]

-- a block of either kind is seen as one of its checkpoints
either_seen : (o : ℕ) (held : Option Stored) → IsSome (seen_as Checkpoint o held) ⊎ IsSome (seen_as Pointers o held) → IsSome (checkpoint_seen o held)
either_seen o held (inl first) = first_is_seen o held first
either_seen o held (inr part) = part_is_seen o held part

abbrev pub none_of : Stored → Option (List ℕ)
none_of block = None

pub data_seen : (o : ℕ) (held : Option Stored) → IsSome (seen_as Data o held) → (is_of o held ≡ true) × (is_data held ≡ true)
data_seen o None some = absurd (cc)
data_seen o (Some block) some = elim (cases_Bool (same_kind Data block.kind && block.object == o)) [
  | inl both ↦ (let parts = and_parts (same_kind Data block.kind) (block.object == o) both in (parts.1, parts.0))
  | inr other ↦ (let none : IsSome (none_of block) = subst (λ (b : Bool). IsSome (if b then Some block.bytes else None)) other some in absurd (cc))
]

-- a place that is taken is in no sealed frame
taken_elsewhere : (ahead : PlacesAheadAreInNoSealedFrame) (t : Table) (f n : ℕ) (p : Place) → is_sealed (frame_at t.seat.frames f).phase ≡ true → p.frame ≡ f → Contains (take n (places_ahead t)) p → ⊥
taken_elsewhere ahead t f n p sealed at has =
    let other : is_sealed (frame_at t.seat.frames p.frame).phase ≡ false = ahead t p (taken_has n p (places_ahead t) has) in
    let same : is_sealed (frame_at t.seat.frames p.frame).phase ≡ true = ap (λ (m : ℕ). is_sealed (frame_at t.seat.frames m).phase) at ∙ sealed in
    cc

-- a data block in the frame was copied, and so it isn't held any more
left_data : (d later : DriveFields) (f o : ℕ) (row : Row) (copies : List CopiedBlock) (p : Place) → ListsAllHeld d.store.table → AreAll d.store.table f o copies
    → is_sealed (frame_at d.store.table.seat.frames f).phase ≡ true → IsRelocated (store_of d) o row copies (store_of later) → p.frame ≡ f
    → IsSome (of_kind Data o (store_of d).log.held p) → held_at later.store.table p ≡ None
left_data d later f o row copies p lists there sealed moved at some =
    let t : Table = d.store.table in
    let both = data_seen o (held_at t p) some in
    let has : Contains (pointers_in t o p.frame) p = lists o p (ap (λ (m : ℕ). is_sealed (frame_at t.seat.frames m).phase) at ∙ sealed) both.0 in
    let here : Contains (pointers_in t o f) p = subst (λ (m : ℕ). Contains (pointers_in t o m) p) at has in
    let among_data : Contains (data_in t o f) p = contains_filter (λ q. is_data (held_at t q)) p both.1 (pointers_in t o f) here in
    let from = image (λ (c : CopiedBlock). c.place) copies p (subst (λ (l : List Place). Contains l p) (sym (places_all t f o copies there)) among_data) in
    moved.gone p (from.from, (from.has, from.is))

pub holds_none : (ahead : PlacesAheadAreInNoSealedFrame) (d later : DriveFields) (f o : ℕ) (row : Row) (copies : List CopiedBlock) → ListsAllHeld d.store.table → AreAll d.store.table f o copies
    → IsRelocated (store_of d) o row copies (store_of later) → HoldsNone later.store.table o f
holds_none ahead d later f o row copies lists there moved p at =
    let t : Table = d.store.table in
    let sealed : is_sealed (frame_at t.seat.frames f).phase ≡ true = there.sealed in
    let n : ℕ = blocks_relocated (store_of d).log.held o row copies in
    elim (cases_Bool (is_of o (held_at later.store.table p))) [
      | inr none ↦ none
      | inl mine ↦ absurd (elim (seen_of o (held_at later.store.table p) mine) [
        | inl journal ↦ taken_elsewhere ahead t f n p sealed at (moved.chains p journal)
        | inr (inl checkpoint) ↦ taken_elsewhere ahead t f n p sealed at (moved.checkpoints p (either_seen o (held_at later.store.table p) checkpoint))
        | inr (inr contents) ↦ elim (moved.blocks p contents) [
          | inl same ↦ (let before : IsSome (of_kind Data o (store_of d).log.held p) = subst (λ (held : Option (List ℕ)). IsSome held) same contents in
              let gone : held_at later.store.table p ≡ None = left_data d later f o row copies p lists there sealed moved at before in
              let other : is_of o (held_at later.store.table p) ≡ false = ap (is_of o) gone in
              (cc))
          | inr taken ↦ taken_elsewhere ahead t f n p sealed at taken
        ]
      ])
    ]

-- as many copies as data blocks
pub as_many : (t : Table) (f o : ℕ) (copies : List CopiedBlock) → AreAll t f o copies → length copies ≡ length (data_in t o f)
as_many t f o copies there = sym (length-map copies (λ c. c.place)) ∙ ap length (places_all t f o copies there)

-- ---- what a relocation tells

-- what it answers, by the row that the object has
abbrev pub Answers : DriveFields → ℕ → List CopiedBlock → Option Row → Result (Unit {0}) Refusal → Type 0
Answers d o copies kept result = IfSome kept (λ row. MatchResult result
    (λ _. blocks_relocated (store_of d).log.held o row copies ≤ length (store_of d).log.ahead)
    (λ e. ((e ≡ NoRoom) × (length (store_of d).log.ahead < blocks_relocated (store_of d).log.held o row copies))
    ⊎ ((e ≡ NoMemory) × (blocks_relocated (store_of d).log.held o row copies ≤ length (store_of d).log.ahead))))

blocks_same : (d : DriveFields) (f o : ℕ) (copies : List CopiedBlock) (row : Row) → AreAll d.store.table f o copies → blocks_relocated (store_of d).log.held o row copies ≡ blocks_moved d f o row
blocks_same d f o copies row there = ap (λ (n : ℕ). n + row_blocks (store_of d).log.held o row) (as_many d.store.table f o copies there)

pub moved_by : (d later : DriveFields) (f o : ℕ) (copies : List CopiedBlock) (kept : Option Row) (result : Result (Unit {0}) Refusal) → AreAll d.store.table f o copies → AreCopies (store_of d).log.held o copies
    → OnOk result (IfSome kept (λ row. IsRelocated (store_of d) o row copies (store_of later))) → Answers d o copies kept result
    → OnOk result (IfSome kept (λ row. IsMovedBy d f o copies row later))
moved_by d later f o copies kept (Err e) there bytes moved told = tt
moved_by d later f o copies None (Ok u) there bytes moved told = tt
moved_by d later f o copies (Some row) (Ok u) there bytes moved told = record {
  places = places_all d.store.table f o copies there;
  bytes = bytes;
  room = subst (λ (n : ℕ). n ≤ length (store_of d).log.ahead) (blocks_same d f o copies row there) told;
  relocated = moved;
}

pub left_by : (ahead : PlacesAheadAreInNoSealedFrame) (d later : DriveFields) (f o : ℕ) (copies : List CopiedBlock) (kept : Option Row) (result : Result (Unit {0}) Refusal) → IsSome kept → ListsAllHeld d.store.table
    → AreAll d.store.table f o copies → OnOk result (IfSome kept (λ row. IsRelocated (store_of d) o row copies (store_of later))) → OnOk result (HoldsNone later.store.table o f)
left_by ahead d later f o copies kept (Err e) some lists there moved = tt
left_by ahead d later f o copies None (Ok u) some lists there moved = absurd (cc)
left_by ahead d later f o copies (Some row) (Ok u) some lists there moved = holds_none ahead d later f o row copies lists there moved

pub room_by : (d : DriveFields) (f o : ℕ) (copies : List CopiedBlock) (kept : Option Row) (result : Result (Unit {0}) Refusal) → AreAll d.store.table f o copies → Answers d o copies kept result
    → result ≡ Err NoRoom → IfSome kept (λ row. length (store_of d).log.ahead < blocks_moved d f o row)
room_by d f o copies None result there told is = tt
room_by d f o copies (Some row) (Ok u) there told is = absurd (cc)
room_by d f o copies (Some row) (Err e) there (inl no_room) is = subst (λ (n : ℕ). length (store_of d).log.ahead < n) (blocks_same d f o copies row there) no_room.1
room_by d f o copies (Some row) (Err e) there (inr no_memory) is = absurd (let other : e ≡ NoMemory = no_memory.0 in let same : e ≡ NoRoom = (cc) in cc)

pub refused_by : (d : DriveFields) (o : ℕ) (copies : List CopiedBlock) (kept : Option Row) (result : Result (Unit {0}) Refusal) → IsSome kept → Answers d o copies kept result
    → IfErr result (λ e. (e ≡ NoRoom) ⊎ (e ≡ NoMemory))
refused_by d o copies None result some told = absurd (cc)
refused_by d o copies (Some row) (Ok u) some told = tt
refused_by d o copies (Some row) (Err e) some (inl no_room) = inl no_room.0
refused_by d o copies (Some row) (Err e) some (inr no_memory) = inr no_memory.0
