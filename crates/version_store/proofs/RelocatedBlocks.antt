-- What became of an object's blocks where copies were appended, its journal was written anew, and what was copied was dropped.
use Rattle.std.proofs.Common.{◌≡◌, ◌↔◌, inl, inr, ℕ, zero, suc, ◌+◌, ◌==◌, ◌&&◌, ◌||◌, Bool, true, false, cond, List, [], ◌∷◌, length, map, Option, Some, None, IsSome, is_some, refl, sym, ap, subst, ◌∙◌, arith}
use Rattle.std.specs.List.{AllByRecursion, Contains}
use Rattle.std.proofs.lemmas.Bool.{cases_Bool, cond-true, cond-false, and_parts, and_right, eqb-true, eq-eqb, false≢true}
use Rattle.std.proofs.lemmas.List.Folds.{list_any_at}
use Rattle.std.proofs.lemmas.List.Elements.{Contains-append_right}
use Rattle.std.specs.Prelude.{option_map}
use std.Path.{fun_ext}
use Rattle.s4_types.specs.Pointer.{Place}
use Rattle.lemmas.proofs.Option.{none_not_some}
use Rattle.block_log.specs.Log.{Log, Stored, of_kind, seen_as, same_kind, same_place}
use Rattle.block_log.specs.Taken.{TakesPlaces}
use Rattle.block_log.specs.declared.kinds.BlockKind.TheVariants.{Journal, Data}
use Rattle.block_log.proofs.Places.{same_place_itself, place_from_parts}
use Rattle.block_log.proofs.BlockKinds.{seen_is_some}
use Rattle.checkpoint.specs.Held.{is_checkpoint_kind}
use Rattle.codec.specs.Checkpoint.{CheckpointFields}
use Rattle.codec.specs.Entry.{EntryFields, entry_length}
use Rattle.inode.specs.Growth.{data_block}
use Rattle.journal_chain.specs.Sizes.{blocks_needed}
use Rattle.row_changes.specs.Moving.{kept_blocks, moved_blocks}
use Rattle.row_changes.specs.Rewritten.{OnlyMetadataChanged}
use Rattle.chain_rewriting.specs.Renaming.{RenamingFields, move_of, is_in, new_place, renamed_slot, renamed_entries, renamed_inode}
use Rattle.chain_rewriting.specs.RenamingLaws.{RenamedEntriesTakeAsManyBytes}
use Rattle.chain_rewriting.proofs.Rules.{move_is}
use Rattle.version_store.specs.declared.copies.CopiedBlock.{CopiedBlock}
use Rattle.version_store.specs.Replacing.{OnlyDataChanged, OtherObjectsStay}
use Rattle.version_store.specs.Relocating.{AreCopies, IsCopied, frame_of_copies}
use Rattle.version_store.specs.private.Below.{OnePlace, PlacesAddUp, HolesTellBlocks}
use Rattle.version_store.specs.private.Relocating.{Appending, IsNewPlace, IsOldOrNew, stood_at}
use Rattle.version_store.proofs.RenamedJournal.{kept_renamed}
use Rattle.version_store.proofs.CheckpointSteps.{some_place}
use Rattle.version_store.proofs.Named.{seen_alone}
use Rattle.version_store.proofs.Dropping.{seen_cond, none_either}

-- ---- what was copied

recursion_at : {X : Type 0} (P : X → Type 0) (xs : List X) (x : X) → AllByRecursion P xs → Contains xs x → P x
recursion_at P [] x all (n, below, at) = absurd (omega (arith, below))
recursion_at P (y ∷ xs) x all (zero, below, at) = subst P at all.0
recursion_at P (y ∷ xs) x all (suc n, below, at) = recursion_at P xs x all.1 (n, omega (arith, below), at)

pub copied_stood : (p : Place) (copies : List CopiedBlock) → IsCopied copies p → stood_at p copies ≡ true
copied_stood p copies (c, ((n, below, at), is)) =
    list_any_at (λ (x : CopiedBlock). same_place x.place p) copies n c below (ap (λ (x : CopiedBlock). same_place x.place p) at ∙ ap (λ (q : Place). same_place q p) is ∙ same_place_itself p)

pub stood_copied : OnePlace → (p : Place) (copies : List CopiedBlock) → stood_at p copies ≡ true → IsCopied copies p
stood_copied one p [] stood = absurd (false≢true stood)
stood_copied one p (c ∷ copies) stood = elim (cases_Bool (same_place c.place p)) [
  | inl is ↦ (c, ((0, omega arith, refl), one c.place p is))
  | inr beside ↦
      let (d, (among, is)) = stood_copied one p copies (sym (ap (λ (b : Bool). b || stood_at p copies) beside) ∙ stood) in
      (d, (Contains-append_right (c ∷ []) copies d among, is))
]

-- Copies were appended, the object's journal alone was written, and what was copied was dropped.
pub record Dropped (before between moved later : Log) (o : ℕ) (copies : List CopiedBlock) (r : RenamingFields) : Type 0 where
  pub one : OnePlace
  pub are : AreCopies before.held o copies
  pub appended : Appending o copies before between r [] (length copies)
  pub metadata : OnlyMetadataChanged o between.held moved.held
  pub dropped : (q : Place) → later.held q ≡ cond (stood_at q copies) None (moved.held q)

pub copied_held : (before between moved later : Log) (o : ℕ) (copies : List CopiedBlock) (r : RenamingFields) → Dropped before between moved later o copies r → (p : Place) → IsCopied copies p → IsSome (of_kind Data o before.held p)
copied_held before between moved later o copies r d p (c, (among, is)) =
    subst (λ (q : Place). IsSome (of_kind Data o before.held q)) is (ap is_some (recursion_at (λ (x : CopiedBlock). of_kind Data o before.held x.place ≡ Some x.bytes) copies c d.are.bytes among))

frame_at : (before between moved later : Log) (o : ℕ) (copies : List CopiedBlock) (r : RenamingFields) → Dropped before between moved later o copies r → (c : CopiedBlock) → Contains copies c → is_in r c.place ≡ true
frame_at before between moved later o copies r d c among =
    ap (λ n. c.place.frame == n && c.place.generation == r.generation) d.appended.frame
    ∙ ap (λ n. c.place.frame == (frame_of_copies copies).frame && c.place.generation == n) d.appended.generation
    ∙ recursion_at (λ (x : CopiedBlock). is_in (frame_of_copies copies) x.place ≡ true) copies c d.are.frame among

-- a place whose block moves is the place of a copy, which is at the new place
pub record CopyOf (between : Log) (o : ℕ) (copies : List CopiedBlock) (p q : Place) : Type 0 where
  pub copy : CopiedBlock
  pub among : Contains copies copy
  pub place : copy.place ≡ p
  pub there : between.held q ≡ Some (data_block o copy.bytes)

copy_of : (before between moved later : Log) (o : ℕ) (copies : List CopiedBlock) (r : RenamingFields) → Dropped before between moved later o copies r → (p q : Place) → new_place r p ≡ Some q → CopyOf between o copies p q
copy_of before between moved later o copies r d p q new =
    let parts = move_is r p q new in
    let at = d.appended.there p.block q parts.1 in
    let mine = and_parts (p.frame == r.frame) (p.generation == r.generation) parts.0 in
    let its = and_parts (at.copy.place.frame == r.frame) (at.copy.place.generation == r.generation) (frame_at before between moved later o copies r d at.copy at.among) in
    record {
      copy = at.copy;
      among = at.among;
      place = place_from_parts at.copy.place p (eqb-true at.copy.place.frame r.frame its.0 ∙ sym (eqb-true p.frame r.frame mine.0)) at.number (eqb-true at.copy.place.generation r.generation its.1 ∙ sym (eqb-true p.generation r.generation mine.1));
      there = at.there;
    }

new_at : (before between moved later : Log) (o : ℕ) (copies : List CopiedBlock) (r : RenamingFields) → Dropped before between moved later o copies r → (c : CopiedBlock) → Contains copies c → new_place r c.place ≡ move_of r c.place.block
new_at before between moved later o copies r d c among = cond-true (is_in r c.place) (move_of r c.place.block) None (frame_at before between moved later o copies r d c among)

none_left : (c : CopiedBlock) → Contains [] c → ⊥
none_left c (n, below, at) = omega (arith, below)

pub moved_are : (before between moved later : Log) (o : ℕ) (copies : List CopiedBlock) (r : RenamingFields) → Dropped before between moved later o copies r → (p : Place) → IsSome (new_place r p) ↔ IsCopied copies p
moved_are before between moved later o copies r d p = (there, back)
  where
    there : IsSome (new_place r p) → IsCopied copies p
    there some =
        let (q, new) = some_place (new_place r p) some in
        let of = copy_of before between moved later o copies r d p q new in
        (of.copy, (of.among, of.place))

    back : IsCopied copies p → IsSome (new_place r p)
    back (c, (among, is)) = subst (λ (x : Place). IsSome (new_place r x)) is (ap is_some (new_at before between moved later o copies r d c among) ∙ elim (d.appended.each c among) [
      | inl some ↦ some
      | inr left ↦ absurd (none_left c left)
    ])

pub from_copy : (before between moved later : Log) (o : ℕ) (copies : List CopiedBlock) (r : RenamingFields) → Dropped before between moved later o copies r → (p : Place) → IsNewPlace r p → (q : Place) × (new_place r q ≡ Some p)
from_copy before between moved later o copies r d p new =
    let at = d.appended.there new.number p new.moves in
    (at.copy.place, new_at before between moved later o copies r d at.copy at.among ∙ ap (move_of r) at.number ∙ new.moves)

-- nothing was held at a new place, so it is none that was copied
new_stays : (before between moved later : Log) (o : ℕ) (copies : List CopiedBlock) (r : RenamingFields) → Dropped before between moved later o copies r → (q : Place) → before.held q ≡ None → stood_at q copies ≡ false
new_stays before between moved later o copies r d q none = elim (cases_Bool (stood_at q copies)) [
  | inl stood ↦
      let some : IsSome (of_kind Data o before.held q) = copied_held before between moved later o copies r d q (stood_copied d.one q copies stood) in
      absurd (false≢true (sym (ap (λ (x : Option Stored). is_some (seen_as Data o x)) none) ∙ some))
  | inr beside ↦ beside
]

-- ---- the data

data_later : (before between moved later : Log) (o : ℕ) (copies : List CopiedBlock) (r : RenamingFields) → Dropped before between moved later o copies r → (p : Place) → of_kind Data o later.held p ≡ cond (stood_at p copies) None (of_kind Data o between.held p)
data_later before between moved later o copies r d p =
    ap (seen_as Data o) (d.dropped p) ∙ seen_cond Data o (stood_at p copies) (moved.held p) ∙ ap (λ (v : Place → Option (List ℕ)). cond (stood_at p copies) None (v p)) (d.metadata Data o refl)

data_here : (before between moved later : Log) (o : ℕ) (copies : List CopiedBlock) (r : RenamingFields) → Dropped before between moved later o copies r → (p : Place) → stood_at p copies ≡ false → of_kind Data o later.held p ≡ of_kind Data o between.held p
data_here before between moved later o copies r d p beside = data_later before between moved later o copies r d p ∙ cond-false (stood_at p copies) None (of_kind Data o between.held p) beside

pub block_seen : (o : ℕ) (bytes : List ℕ) → seen_as Data o (Some (data_block o bytes)) ≡ Some bytes
block_seen o bytes = cond-true (o == o) (Some bytes) None (eq-eqb o o refl)

pub copied_is : (before between moved later : Log) (o : ℕ) (copies : List CopiedBlock) (r : RenamingFields) → Dropped before between moved later o copies r → (p q : Place) → new_place r p ≡ Some q
    → IsSome (of_kind Data o before.held p) × (of_kind Data o later.held q ≡ of_kind Data o before.held p)
copied_is before between moved later o copies r d p q new =
    let of = copy_of before between moved later o copies r d p q new in
    let was : of_kind Data o before.held p ≡ Some of.copy.bytes =
    subst (λ (x : Place). of_kind Data o before.held x ≡ Some of.copy.bytes) of.place (recursion_at (λ (x : CopiedBlock). of_kind Data o before.held x.place ≡ Some x.bytes) copies of.copy d.are.bytes of.among) in
    let free : before.held q ≡ None = d.appended.fresh p.block q (move_is r p q new).1 in
    (ap is_some was, data_here before between moved later o copies r d q (new_stays before between moved later o copies r d q free) ∙ ap (seen_as Data o) of.there ∙ block_seen o of.copy.bytes ∙ sym was)

-- a place that was not copied
not_stood : (before between moved later : Log) (o : ℕ) (copies : List CopiedBlock) (r : RenamingFields) → Dropped before between moved later o copies r → (p : Place) → new_place r p ≡ None → stood_at p copies ≡ false
not_stood before between moved later o copies r d p stays = elim (cases_Bool (stood_at p copies)) [
  | inl stood ↦ absurd (none_not_some (new_place r p) stays ((moved_are before between moved later o copies r d p).1 (stood_copied d.one p copies stood)))
  | inr beside ↦ beside
]

pub stayed_is : (before between moved later : Log) (o : ℕ) (copies : List CopiedBlock) (r : RenamingFields) → Dropped before between moved later o copies r → (p : Place) → IsSome (of_kind Data o before.held p) → new_place r p ≡ None
    → of_kind Data o later.held p ≡ of_kind Data o before.held p
stayed_is before between moved later o copies r d p some stays =
    data_here before between moved later o copies r d p (not_stood before between moved later o copies r d p stays) ∙ ap (seen_as Data o) (d.appended.stays p (seen_is_some Data o (before.held p) some))

none_new : (before between moved later : Log) (o : ℕ) (copies : List CopiedBlock) (r : RenamingFields) → Dropped before between moved later o copies r → (p : Place) (new : Option Place) → new_place r p ≡ new → stood_at p copies ≡ false → new ≡ None
none_new before between moved later o copies r d p None is beside = refl
none_new before between moved later o copies r d p (Some q) is beside = absurd (false≢true (sym beside ∙ copied_stood p copies ((moved_are before between moved later o copies r d p).0 (ap is_some is))))

pub old_or_new : (before between moved later : Log) (o : ℕ) (copies : List CopiedBlock) (r : RenamingFields) → Dropped before between moved later o copies r → (p : Place) → IsSome (of_kind Data o later.held p) → IsOldOrNew o r before.held later.held p
old_or_new before between moved later o copies r d p some = elim (cases_Bool (stood_at p copies)) [
  | inl stood ↦ absurd (false≢true (sym (ap is_some (data_later before between moved later o copies r d p ∙ cond-true (stood_at p copies) None (of_kind Data o between.held p) stood)) ∙ some))
  | inr beside ↦
      let here = data_here before between moved later o copies r d p beside in
      let held : IsSome (between.held p) = seen_is_some Data o (between.held p) (subst (λ (x : Option (List ℕ)). IsSome x) here some) in
      elim (cases_Bool (is_some (before.held p))) [
        | inl was ↦ inl (here ∙ ap (seen_as Data o) (d.appended.stays p was), none_new before between moved later o copies r d p (new_place r p) refl beside)
        | inr none ↦ let gone = is_none (before.held p) none in inr (gone, d.appended.new p gone held)
      ]
]
  where
    is_none : (x : Option Stored) → is_some x ≡ false → x ≡ None
    is_none None h = refl
    is_none (Some block) h = absurd (false≢true (sym h))

pub gone_is : (before between moved later : Log) (o : ℕ) (copies : List CopiedBlock) (r : RenamingFields) → Dropped before between moved later o copies r → (p : Place) → IsCopied copies p → later.held p ≡ None
gone_is before between moved later o copies r d p copied = d.dropped p ∙ cond-true (stood_at p copies) None (moved.held p) (copied_stood p copies copied)

-- ---- all other views

pub only_data : (before between moved later : Log) (o : ℕ) (copies : List CopiedBlock) (r : RenamingFields) → Dropped before between moved later o copies r → OnlyDataChanged o moved.held later.held
only_data before between moved later o copies r d kind other beside = fun_ext (λ q.
    ap (seen_as kind other) (d.dropped q) ∙ seen_cond kind other (stood_at q copies) (moved.held q)
    ∙ none_either (stood_at q copies) (seen_as kind other (moved.held q)) (λ stood. seen_alone kind o other (moved.held q) (there q stood) beside))
  where
    there : (q : Place) → stood_at q copies ≡ true → IsSome (of_kind Data o moved.held q)
    there q stood =
        let was = copied_held before between moved later o copies r d q (stood_copied d.one q copies stood) in
        ap (λ (v : Place → Option (List ℕ)). is_some (v q)) (d.metadata Data o refl) ∙ ap (λ (x : Option Stored). is_some (seen_as Data o x)) (d.appended.stays q (seen_is_some Data o (before.held q) was)) ∙ was

pub others_are : (before between moved later : Log) (o : ℕ) (copies : List CopiedBlock) (r : RenamingFields) → Dropped before between moved later o copies r → OtherObjectsStay o before.held later.held
others_are before between moved later o copies r d kind other beside =
    only_data before between moved later o copies r d kind other (and_right (same_kind Data kind) (o == other) beside)
    ∙ d.metadata kind other (and_right (same_kind Journal kind || is_checkpoint_kind kind) (o == other) beside)
    ∙ d.appended.others kind other (and_right (same_kind Data kind) (o == other) beside)

-- ---- places

same_holes : (r : RenamingFields) (slots : List (Option Place)) → map is_some (map (renamed_slot r) slots) ≡ map is_some slots
same_holes r [] = refl
same_holes r (None ∷ slots) = ap (λ bs. false ∷ bs) (same_holes r slots)
same_holes r (Some p ∷ slots) = ap (λ bs. true ∷ bs) (same_holes r slots)

same_kept : HolesTellBlocks → (r : RenamingFields) (c : Option CheckpointFields) → kept_blocks (kept_renamed r c) ≡ kept_blocks (option_map (λ k. k.inode) c)
same_kept holes r None = refl
same_kept holes r (Some c) = holes (renamed_inode r c.inode) c.inode (same_holes r c.inode.pointers)

-- a renamed journal takes as many blocks
pub same_blocks : RenamedEntriesTakeAsManyBytes → HolesTellBlocks → (r : RenamingFields) (c : Option CheckpointFields) (entries : List EntryFields)
    → moved_blocks (kept_renamed r c) (renamed_entries r entries) ≡ moved_blocks (option_map (λ k. k.inode) c) entries
same_blocks law holes r c entries =
    ap (λ (sizes : List ℕ). kept_blocks (kept_renamed r c) + blocks_needed 0 sizes) (law r entries)
    ∙ ap (λ (n : ℕ). n + blocks_needed 0 (map entry_length entries)) (same_kept holes r c)

pub takes_all : PlacesAddUp → (n m : ℕ) (before between moved later : Log) → TakesPlaces n before between → TakesPlaces m between moved → TakesPlaces 0 moved later → TakesPlaces (n + m) before later
takes_all law n m before between moved later first second third =
    subst (λ k. TakesPlaces k before later) (let none : n + m + 0 ≡ n + m = omega arith in none) (law (n + m) 0 before moved later (law n m before between moved first second) third)
