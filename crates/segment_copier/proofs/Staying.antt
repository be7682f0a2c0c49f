-- Where an object's blocks are as they were, they are found in a frame as they were.
use Rattle.std.proofs.Common.{◌≡◌, inl, inr, ℕ, ◌≤◌, ◌==◌, ◌&&◌, ◌||◌, Bool, true, cond, if◌then◌else◌, List, [], ◌∷◌, map, filter, refl, sym, ap, subst, ◌∙◌, Option, Some, None, arith}
use Rattle.std.specs.Prelude.{IsSome, option_map}
use Rattle.std.specs.List.{Contains}
use Rattle.std.proofs.lemmas.Bool.{cases_Bool, cond-false, and_parts, eqb-true, true≢false}
use Rattle.std.proofs.lemmas.Option.{none-some}
use std.Path.{fun_ext}
use Rattle.s4_types.specs.Pointer.{Place}
use Rattle.lemmas.proofs.Contains.{contains_later}
use Rattle.block_log.specs.declared.kinds.BlockKind.{BlockKind}
use Rattle.block_log.specs.declared.kinds.BlockKind.TheVariants.{Journal, Checkpoint, Data, Pointers}
use Rattle.block_log.specs.Log.{Stored, same_kind, seen_as, of_kind}
use Rattle.segment_word.specs.Frames.{Phase, Free, Open, Sealed, Draining, code_of, is_open, is_sealed}
use Rattle.segment_word.specs.FrameRule.{AllRemembered, IsRemembered}
use Rattle.segment_word.specs.Handles.{pin_of}
use Rattle.segment_word.specs.Layout.{frame_at, block_bytes}
use Rattle.segment_table.specs.Table.{Table, slots_at, held_at, is_of}
use Rattle.segment_table.specs.Room.{places, whole_of, pointers_in}
use Rattle.segment_table.specs.Used.{HoldsUsedBlocks, is_named, used_slot, with_bytes}
use Rattle.segment_table.specs.Laws.{IsListed, WhatIsListedIsHeld}
use Rattle.segment_table.proofs.Emptying.{sealed_is}
use Rattle.segment_table.proofs.Listing.{of_some}
use Rattle.version_store.specs.declared.copies.CopiedBlock.{CopiedBlock}
use Rattle.segment_copier.specs.Moves.{is_data, data_in}
use Rattle.segment_copier.specs.Commits.{AreStillThere}
use Rattle.segment_copier.proofs.Listed.{some_sealed}
use Rattle.segment_copier.proofs.Placed.{seen, seen_of, data_seen, none_of}

-- ---- lists

-- tests that agree on a list pass the same of it
filter_alike : {X : Type 0} (one two : X → Bool) (xs : List X) → ((x : X) → Contains xs x → two x ≡ one x) → filter two xs ≡ filter one xs
filter_alike one two [] each = refl
filter_alike {X} one two (x ∷ xs) each =
    ap (λ (b : Bool). cond b (x ∷ filter two xs) (filter two xs)) (each x (0, omega arith, refl))
    ∙ ap (λ (l : List X). cond (one x) (x ∷ l) l) (filter_alike one two xs (λ y has. each y (contains_later x xs y has)))

-- a list that isn't empty has an element
pub has_some : {X : Type 0} (xs : List X) → (xs ≡ [] → ⊥) → (x : X) × Contains xs x
has_some [] some = absurd (some refl)
has_some (x ∷ xs) some = (x, (0, omega arith, refl))

-- ---- blocks that are seen alike

-- what is seen of an object is its
mine : (kind : BlockKind) (o : ℕ) (held : Option Stored) → IsSome (seen_as kind o held) → is_of o held ≡ true
mine kind o None some = absurd (cc)
mine kind o (Some block) some = elim (cases_Bool (same_kind kind block.kind && block.object == o)) [
  | inl both ↦ (and_parts (same_kind kind block.kind) (block.object == o) both).1
  | inr other ↦ (let none : IsSome (none_of block) = subst (λ (b : Bool). IsSome (if b then Some block.bytes else None)) other some in absurd (cc))
]

abbrev SeenAlike : ℕ → Option Stored → Option Stored → Type 0
SeenAlike o x y = (kind : BlockKind) → seen_as kind o y ≡ seen_as kind o x

carry : (o : ℕ) (x y : Option Stored) → SeenAlike o x y → is_of o x ≡ true → is_of o y ≡ true
carry o x y same is = elim (seen_of o x is) [
  | inl journal ↦ mine Journal o y (subst (λ (b : Option (List ℕ)). IsSome b) (sym (same Journal)) journal)
  | inr (inl (inl first)) ↦ mine Checkpoint o y (subst (λ (b : Option (List ℕ)). IsSome b) (sym (same Checkpoint)) first)
  | inr (inl (inr part)) ↦ mine Pointers o y (subst (λ (b : Option (List ℕ)). IsSome b) (sym (same Pointers)) part)
  | inr (inr contents) ↦ mine Data o y (subst (λ (b : Option (List ℕ)). IsSome b) (sym (same Data)) contents)
]

alike : (o : ℕ) (x y : Option Stored) → SeenAlike o x y → is_of o y ≡ is_of o x
alike o x y same = elim (cases_Bool (is_of o x)) [
  | inl is ↦ carry o x y same is ∙ sym is
  | inr none ↦ elim (cases_Bool (is_of o y)) [
    | inl is ↦ absurd (true≢false (sym (carry o y x (λ kind. sym (same kind)) is) ∙ none))
    | inr other ↦ other ∙ sym none
  ]
]

data_of : (o : ℕ) (x : Option Stored) → is_of o x ≡ true → is_data x ≡ true → IsSome (seen_as Data o x)
data_of o None is kind = absurd (cc)
data_of o (Some block) is kind = seen Data o block kind is

carry_data : (o : ℕ) (x y : Option Stored) → SeenAlike o x y → is_of o x ≡ true → is_data x ≡ true → is_data y ≡ true
carry_data o x y same is kind = (data_seen o y (subst (λ (b : Option (List ℕ)). IsSome b) (sym (same Data)) (data_of o x is kind))).1

data_alike : (o : ℕ) (x y : Option Stored) → SeenAlike o x y → is_of o x ≡ true → is_data y ≡ is_data x
data_alike o x y same is = elim (cases_Bool (is_data x)) [
  | inl kind ↦ carry_data o x y same is kind ∙ sym kind
  | inr none ↦ elim (cases_Bool (is_data y)) [
    | inl kind ↦ absurd (true≢false (sym (carry_data o y x (λ k. sym (same k)) (carry o x y same is) kind) ∙ none))
    | inr other ↦ other ∙ sym none
  ]
]

-- ---- the frame

abbrev none_used : List ℕ → Option Stored
none_used bytes = None

-- a block is held in an open or sealed frame, at the frame's generation
named_now : (t : Table) (p : Place) → HoldsUsedBlocks t → IsSome (held_at t p) → (is_named (frame_at t.seat.frames p.frame) ≡ true) × ((frame_at t.seat.frames p.frame).generation ≡ p.generation)
named_now t p used some = by_held (held_at t p) refl some where
  by_held : (held : Option Stored) → held_at t p ≡ held → IsSome held → (is_named (frame_at t.seat.frames p.frame) ≡ true) × ((frame_at t.seat.frames p.frame).generation ≡ p.generation)
  by_held None e there = absurd (cc)
  by_held (Some block) e there = elim (cases_Bool (is_named (frame_at t.seat.frames p.frame) && (frame_at t.seat.frames p.frame).generation == p.generation)) [
    | inl both ↦
        let parts = and_parts (is_named (frame_at t.seat.frames p.frame)) ((frame_at t.seat.frames p.frame).generation == p.generation) both in
        (parts.0, eqb-true (frame_at t.seat.frames p.frame).generation p.generation parts.1)
    | inr other ↦
        absurd (none-some block
        (sym (cond-false (is_named (frame_at t.seat.frames p.frame) && (frame_at t.seat.frames p.frame).generation == p.generation)
        (option_map (with_bytes (block_bytes (frame_at t.seat.frames p.frame).contents p.block)) (used_slot (slots_at t.slots p.frame) p.block)) None other) ∙ used p block e))
  ]

-- such a frame is sealed, where it isn't open
named_sealed : (phase : Phase) → 2 ≤ code_of phase → (is_open phase || is_sealed phase) ≡ true → is_sealed phase ≡ true
named_sealed Free least named = absurd (omega arith)
named_sealed Open least named = absurd (omega arith)
named_sealed Sealed least named = refl
named_sealed Draining least named = named

-- ---- what was planned

-- the frame is sealed still, at the generation that it had
record IsAsItWas (t later : Table) (f : ℕ) : Type 0 where
  pub sealed : is_sealed (frame_at later.seat.frames f).phase ≡ true
  pub generation : (frame_at later.seat.frames f).generation ≡ (frame_at t.seat.frames f).generation

frame_stays : WhatIsListedIsHeld → (t later : Table) (f o : ℕ) → (pointers_in t o f ≡ [] → ⊥) → ((kind : BlockKind) → of_kind kind o (held_at later) ≡ of_kind kind o (held_at t))
    → AllRemembered later.seat.frames (pin_of t.seat.frames f ∷ []) → HoldsUsedBlocks later → IsAsItWas t later f
frame_stays law t later f o some same memory used =
    let first = has_some (pointers_in t o f) some in
    let p : Place = first.0 in
    let listed : IsListed t o f p = law t o f p first.1 in
    let held : is_of o (held_at later p) ≡ true = carry o (held_at t p) (held_at later p) (λ kind. ap (λ (view : Place → Option (List ℕ)). view p) (same kind)) listed.held in
    let now = named_now later p used (of_some o (held_at later p) held) in
    let generation : (frame_at later.seat.frames f).generation ≡ (frame_at t.seat.frames f).generation =
    ap (λ (n : ℕ). (frame_at later.seat.frames n).generation) (sym listed.frame) ∙ now.1 ∙ listed.generation in
    let true_of : IsRemembered later.seat.frames (pin_of t.seat.frames f) = memory 0 (pin_of t.seat.frames f) refl in
    record {
      sealed = named_sealed (frame_at later.seat.frames f).phase (true_of.same (sym generation)).sealed (subst (λ (n : ℕ). is_named (frame_at later.seat.frames n) ≡ true) listed.frame now.0);
      generation = generation;
    }

pub still_there : WhatIsListedIsHeld → (t later : Table) (f o : ℕ) (copies : List CopiedBlock) → (pointers_in t o f ≡ [] → ⊥) → map (λ c. c.place) copies ≡ data_in t o f
    → ((kind : BlockKind) → of_kind kind o (held_at later) ≡ of_kind kind o (held_at t))
    → AllRemembered later.seat.frames (pin_of t.seat.frames f ∷ []) → HoldsUsedBlocks later → AreStillThere later f o copies
still_there law t later f o copies some places_are same memory used =
    let frame : IsAsItWas t later f = frame_stays law t later f o some same memory used in
    let seen_alike : (p : Place) → SeenAlike o (held_at t p) (held_at later p) = λ p kind. ap (λ (view : Place → Option (List ℕ)). view p) (same kind) in
    let one : Place → Bool = λ p. is_of o (held_at t p) in
    let two : Place → Bool = λ p. is_of o (held_at later p) in
    let tests : two ≡ one = fun_ext (λ p. alike o (held_at t p) (held_at later p) (seen_alike p)) in
    let pointers : pointers_in later o f ≡ pointers_in t o f =
    ap (λ (b : Bool). if b then filter two (whole_of later f) else []) frame.sealed
    ∙ ap (λ (test : Place → Bool). filter test (whole_of later f)) tests
    ∙ ap (λ (g : ℕ). filter one (places f g 1 15)) frame.generation
    ∙ sym (ap (λ (b : Bool). if b then filter one (whole_of t f) else []) (some_sealed t o f some)) in
    let kinds : data_in later o f ≡ data_in t o f =
    ap (filter (λ p. is_data (held_at later p))) pointers
    ∙ filter_alike (λ p. is_data (held_at t p)) (λ p. is_data (held_at later p)) (pointers_in t o f)
    (λ p has. data_alike o (held_at t p) (held_at later p) (seen_alike p) (law t o f p has).held) in
    record { sealed = sealed_is (frame_at later.seat.frames f).phase frame.sealed; some = λ none. some (sym pointers ∙ none); places = places_are ∙ sym kinds }
