-- What is told of an object that is copied: of which places, and what becomes of it over the copies.
use Rattle.std.proofs.Common.{◌≡◌, ℕ, ◌+◌, ◌==◌, ◌&&◌, Bool, true, false, List, [], ◌∷◌, ◌++◌, map, Option, Some, None, IsSome, MatchOption, option_map, is_some, inl, inr, refl, sym, ap, subst, ◌∙◌}
use Rattle.std.specs.Prelude.{IfSome}
use Rattle.std.specs.List.{All, AllByRecursion, Contains}
use Rattle.std.proofs.lemmas.Bool.{cases_Bool, or_cases, and_parts, eqb-true, cond-true, cond-false}
use Rattle.std.proofs.lemmas.Option.{none-some, same_Some}
use Rattle.std.proofs.lemmas.List.Elements.{All-contains, All-contains_itself, All-from_recursion, recursion_from_All}
use Rattle.s4_types.specs.Pointer.{Place}
use Rattle.lemmas.proofs.Option.{IfSome_from}
use Rattle.block_log.specs.Log.{Stored, of_kind, same_kind, same_place, seen_as}
use Rattle.block_log.specs.declared.kinds.BlockKind.{BlockKind}
use Rattle.block_log.specs.declared.kinds.BlockKind.TheVariants.{Data}
use Rattle.block_log.proofs.Places.{same_place_itself}
use Rattle.block_log.proofs.BlockKinds.{one_kind, seen_as_itself}
use Rattle.codec.specs.Checkpoint.{pointer_at}
use Rattle.codec.specs.Entry.{EntryFields, entry_length}
use Rattle.codec.specs.declared.inodes.Inode.{Inode}
use Rattle.undo_redo.specs.Runs.{blank}
use Rattle.inode.specs.Contents.{bytes_stored}
use Rattle.checkpoint.specs.Held.{is_one_of, checkpoint_blocks}
use Rattle.journal_chain.specs.Sizes.{blocks_needed}
use Rattle.time_read.specs.Orderly.{BeginsDead}
use Rattle.chain_rewriting.specs.Apart.{Passes, ToldWithin}
use Rattle.chain_rewriting.specs.CleaningLaws.{TellsWithin}
use Rattle.chain_rewriting.specs.Places.{WhatIsToldIsListed}
use Rattle.chain_rewriting.specs.Mapping.{mapped_slot, mapped_entries, mapped_inode}
use Rattle.chain_rewriting.specs.MappingLaws.{MappedEntriesTakeAsManyBytes}
use Rattle.row_changes.specs.Moving.{checkpoint_kept, first_kept, kept_blocks, moved_blocks}
use Rattle.row_changes.proofs.Mapped.{begins_dead}
use Rattle.version_store.specs.Store.{HasNothing, IsLed, pointers_kept, sides_told}
use Rattle.image_objects.specs.Saved.{HoldsUsed}
use Rattle.version_store.proofs.Telling.{first_told}
use Rattle.migration.specs.Places.{pointers_in, data_pointers, data_places, with_places}
use Rattle.migration.specs.declared.moves.Move.{Move}
use Rattle.migration.specs.Moves.{is_moved}
use Rattle.migration.specs.private.Copying.{IsUsedData}
use Rattle.migration.proofs.Sorting.{all_with, with_has}
use Rattle.migration.proofs.Moving.{OnePlace, moved_is, old_places}

-- ---- of which places it tells

-- each is the place of a used data block
pub all_used : (used : Place → Option Stored) (o : ℕ) (kept : Option Inode) (entries : List EntryFields) → All (IsLed used o) (data_pointers kept entries) → AllByRecursion (IsUsedData used o) (data_places kept entries)
all_used used o kept entries led = all_with (IsUsedData used o) [] (data_pointers kept entries) tt (recursion_from_All (IsLed used o) (data_pointers kept entries) led)

-- each is told
told_by : OnePlace → (P : Place → Type 0) (places : List Place) (q : Place) → AllByRecursion P places → is_one_of places q ≡ true → P q
told_by one P [] q all is = absurd (cc)
told_by one P (p ∷ places) q all is = elim (or_cases (same_place p q) (is_one_of places q) is) [
  | inl here ↦ subst (λ (x : Place). P x) (one p q here) all.0
  | inr later ↦ told_by one P places q all.1 later
]

slots_contained : (all slots : List (Option Place)) → AllByRecursion (Contains all) slots → AllByRecursion (λ s. IfSome s (λ p. Contains all (Some p))) slots
slots_contained all [] each = tt
slots_contained all (None ∷ slots) each = (tt, slots_contained all slots each.1)
slots_contained all (Some p ∷ slots) each = (each.0, slots_contained all slots each.1)

pub is_told : OnePlace → (slots : List (Option Place)) (q : Place) → is_one_of (with_places [] slots) q ≡ true → Contains slots (Some q)
is_told one slots q is =
    told_by one (λ p. Contains slots (Some p)) (with_places [] slots) q
    (all_with (λ p. Contains slots (Some p)) [] slots tt (slots_contained slots slots (recursion_from_All (Contains slots) slots (All-contains_itself slots)))) is

-- each pointer is a hole, or its block goes somewhere
abbrev pub GoesSomewhere : List Move → Option Place → Type 0
GoesSomewhere moves slot = IfSome slot (Passes (is_moved moves))

goes : (places : List Place) (moves : List Move) (slots : List (Option Place)) → old_places moves ≡ places → AllByRecursion (λ s. IfSome s (λ p. is_one_of places p ≡ true)) slots → AllByRecursion (GoesSomewhere moves) slots
goes places moves [] from all = tt
goes places moves (None ∷ slots) from all = (tt, goes places moves slots from all.1)
goes places moves (Some p ∷ slots) from all = (moved_is moves p ∙ ap (λ (x : List Place). is_one_of x p) from ∙ all.0, goes places moves slots from all.1)

pub each_goes : (moves : List Move) (slots : List (Option Place)) → old_places moves ≡ with_places [] slots → All (GoesSomewhere moves) slots
each_goes moves slots from = All-from_recursion (GoesSomewhere moves) slots (goes (with_places [] slots) moves slots from (with_has same_place_itself [] slots))

-- an inode of these pointers
abbrev pub of_pointers : List (Option Place) → Inode
of_pointers pointers = record (blank 0) { pointers = pointers }

pub sides_within : WhatIsToldIsListed → (moves : List Move) (kept : Option Inode) (entries : List EntryFields) → All (GoesSomewhere moves) (data_pointers kept entries) → AllByRecursion (TellsWithin (Passes (is_moved moves))) entries
sides_within listed moves kept entries all = ((listed (is_moved moves) (of_pointers (pointers_in kept)) entries).1 all).sides

pub kept_pointers : (o m : ℕ) (kept : Option Inode) → pointers_kept (checkpoint_kept o m kept) ≡ pointers_in kept
kept_pointers o m None = refl
kept_pointers o m (Some i) = refl

-- the first inode points to such places alone, too
pub told_within : WhatIsToldIsListed → (moves : List Move) (o created m : ℕ) (kept : Option Inode) (entries : List EntryFields) → All (GoesSomewhere moves) (data_pointers kept entries) → ToldWithin (Passes (is_moved moves)) (first_kept o created m kept entries) entries
told_within listed moves o created m kept entries all =
    let first : Inode = first_kept o created m kept entries in
    record {
      pointers = λ k. IfSome_from (pointer_at first k) (Passes (is_moved moves))
          (λ p at. All-contains (GoesSomewhere moves) (data_pointers kept entries) (Some p) all
          (subst (λ (x : List (Option Place)). Contains (x ++ sides_told entries) (Some p)) (kept_pointers o m kept) (first_told created m entries (checkpoint_kept o m kept) k p at)));
      sides = sides_within listed moves kept entries all;
    }

-- ---- its bytes

-- whether a block is the object's, of data
abbrev pub is_this : ℕ → Stored → Bool
is_this o block = same_kind Data block.kind && block.object == o

seen_bytes : (o : ℕ) (x : Option Stored) (bytes : List ℕ) → seen_as Data o x ≡ Some bytes → bytes_stored x ≡ bytes
seen_bytes o None bytes is = absurd (none-some bytes is)
seen_bytes o (Some block) bytes is = elim (cases_Bool (is_this o block)) [
  | inl here ↦ same_Some block.bytes bytes (sym (cond-true (is_this o block) (Some block.bytes) None here) ∙ is)
  | inr not ↦ absurd (none-some bytes (sym (cond-false (is_this o block) (Some block.bytes) None not) ∙ is))
]

some_there : (x : Option (List ℕ)) → IsSome x → (bytes : List ℕ) × (x ≡ Some bytes)
some_there None is = absurd (cc)
some_there (Some bytes) is = (bytes, refl)

-- where the one is seen as the other, their bytes are the same
pub same_bytes : (o : ℕ) (x y : Option Stored) → IsSome (seen_as Data o y) → seen_as Data o x ≡ seen_as Data o y → bytes_stored x ≡ bytes_stored y
same_bytes o x y some same =
    let there = some_there (seen_as Data o y) some in
    seen_bytes o x there.0 (same ∙ there.1) ∙ sym (seen_bytes o y there.0 there.1)

-- ---- what it becomes

pub beginning_mapped : (f : Place → Place) (W : Type 0) (kept : Option Inode) (entries : List EntryFields) → MatchOption kept (BeginsDead entries) (λ i. W) → MatchOption (option_map (mapped_inode f) kept) (BeginsDead (mapped_entries f entries)) (λ i. W)
beginning_mapped f W None entries begins = begins_dead f entries begins
beginning_mapped f W (Some i) entries begins = begins

pub mapped_pointers : (f : Place → Place) (kept : Option Inode) → pointers_in (option_map (mapped_inode f) kept) ≡ map (mapped_slot f) (pointers_in kept)
mapped_pointers f None = refl
mapped_pointers f (Some i) = refl

pub some_mapped : (f : Place → Place) (kept : Option Inode) → is_some (option_map (mapped_inode f) kept) ≡ is_some kept
some_mapped f None = refl
some_mapped f (Some i) = refl

-- ---- as many blocks

same_holes : (f : Place → Place) (slots : List (Option Place)) → map is_some (map (mapped_slot f) slots) ≡ map is_some slots
same_holes f [] = refl
same_holes f (None ∷ slots) = ap (λ bs. false ∷ bs) (same_holes f slots)
same_holes f (Some p ∷ slots) = ap (λ bs. true ∷ bs) (same_holes f slots)

abbrev pub HolesTellBlocks : Type 0
HolesTellBlocks = (i j : Inode) → map is_some i.pointers ≡ map is_some j.pointers → checkpoint_blocks i ≡ checkpoint_blocks j

same_kept : HolesTellBlocks → (f : Place → Place) (kept : Option Inode) → kept_blocks (option_map (mapped_inode f) kept) ≡ kept_blocks kept
same_kept holes f None = refl
same_kept holes f (Some i) = holes (mapped_inode f i) i (same_holes f i.pointers)

pub same_blocks : HolesTellBlocks → (f : Place → Place) → MappedEntriesTakeAsManyBytes f → (kept : Option Inode) (entries : List EntryFields) → moved_blocks (option_map (mapped_inode f) kept) (mapped_entries f entries) ≡ moved_blocks kept entries
same_blocks holes f each kept entries =
    ap (λ (sizes : List ℕ). kept_blocks (option_map (mapped_inode f) kept) + blocks_needed 0 sizes) (each entries)
    ∙ ap (λ (n : ℕ). n + blocks_needed 0 (map entry_length entries)) (same_kept holes f kept)

-- ---- what was held stays

seen_whole : (x : Option Stored) (block : Stored) → seen_as block.kind block.object x ≡ Some block.bytes → x ≡ Some block
seen_whole None block is = absurd (none-some block.bytes is)
seen_whole (Some other) block is =
    let test : Bool = same_kind block.kind other.kind && other.object == block.object in
    elim (cases_Bool test) [
      | inl here ↦ (let parts = and_parts (same_kind block.kind other.kind) (other.object == block.object) here in
          let bytes : other.bytes ≡ block.bytes = same_Some other.bytes block.bytes (sym (cond-true test (Some other.bytes) None here) ∙ is) in
          let kind : other.kind ≡ block.kind = (sym (one_kind block.kind other.kind parts.0)) in
          let object : other.object ≡ block.object = eqb-true other.object block.object parts.1 in
          ap (λ (k : BlockKind). Some (record { kind = k; object = other.object; bytes = other.bytes })) kind
          ∙ ap (λ (o : ℕ). Some (record { kind = block.kind; object = o; bytes = other.bytes })) object
          ∙ ap (λ (b : List ℕ). Some (record { kind = block.kind; object = block.object; bytes = b })) bytes)
      | inr not ↦ absurd (none-some block.bytes (sym (cond-false test (Some other.bytes) None not) ∙ is))
    ]

pub held_stays : (o : ℕ) (before after : Place → Option Stored) → HasNothing before o → ((kind : BlockKind) (other : ℕ) → (o == other) ≡ false → of_kind kind other after ≡ of_kind kind other before) → HoldsUsed after before
held_stays o before after nothing others p block held =
    let seen : of_kind block.kind block.object before p ≡ Some block.bytes = ap (seen_as block.kind block.object) held ∙ seen_as_itself block in
    elim (cases_Bool (o == block.object)) [
      | inl same ↦ absurd (none-some block.bytes (sym (nothing block.kind p) ∙ ap (λ (n : ℕ). of_kind block.kind n before p) (eqb-true o block.object same) ∙ seen))
      | inr not ↦ seen_whole (after p) block (ap (λ (v : Place → Option (List ℕ)). v p) (others block.kind block.object not) ∙ seen)
    ]
