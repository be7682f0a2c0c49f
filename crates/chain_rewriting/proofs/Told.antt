-- The places of which a mapped chain tells.
use Rattle.std.proofs.Common.{◌≡◌, ℕ, zero, suc, Bool, true, false, not, cond, inl, inr, List, [], ◌∷◌, map, get_or, Option, Some, None, refl, sym, ap, subst, ◌∙◌}
use Rattle.std.proofs.Math.ListN.{set}
use Rattle.std.specs.Prelude.{IfSome, is_some, ◌||◌}
use Rattle.std.specs.List.{AllByRecursion}
use Rattle.std.proofs.lemmas.Bool.{cases_Bool, cond-true, cond-false}
use Rattle.s4_types.specs.Pointer.{Place}
use Rattle.codec.specs.declared.inodes.Inode.{Inode}
use Rattle.codec.specs.declared.entries.Triple.{Triple}
use Rattle.codec.specs.Checkpoint.{pointer_at}
use Rattle.codec.specs.Entry.{EntryFields}
use Rattle.undo_redo.specs.Redone.{with_after, with_before, redone, undone}
use Rattle.undo_redo.specs.Runs.{redone_all, undone_all, entry_is_by, entries_by, inode_after}
use Rattle.chain_rewriting.specs.CleaningLaws.{PointsWithin, TellsWithin}
use Rattle.chain_rewriting.specs.Mapping.{mapped_slot, mapped_triple, mapped_entries, MapsWithin}
use Rattle.chain_rewriting.specs.MappingLaws.{AMappedChainTellsOfMappedPlaces, EachPlaceIsPointedToMapped}
use Rattle.chain_rewriting.specs.Renaming.{RenamingFields, move_of, is_in, new_place, renamed}
use Rattle.chain_rewriting.specs.Apart.{Passes, ToldWithin, IsNotNew, IsOutside, moves_out, LeadsWithin}
use Rattle.chain_rewriting.specs.Places.{AChainIsToldFromEitherEnd, ApartFromEitherEnd, AChainPointsToWhatItTells, ARenamedChainIsOutOfTheFrame}
use Rattle.chain_rewriting.proofs.Mapped.{pointer_mapped, inode_after_mapped}
use Rattle.chain_rewriting.proofs.Rules.{renamed_stays, renamed_moves}

abbrev pub SidesWithin : (Place → Type 0) → List Triple → Type 0
SidesWithin Is triples = AllByRecursion (λ t. IfSome t.before Is × IfSome t.after Is) triples

slot_told : (f : Place → Place) (Was Is : Place → Type 0) (slot : Option Place) → MapsWithin Was Is f → IfSome slot Was → IfSome (mapped_slot f slot) Is
slot_told f Was Is None so h = tt
slot_told f Was Is (Some p) so h = so p h

triples_told : (f : Place → Place) (Was Is : Place → Type 0) (triples : List Triple) → MapsWithin Was Is f → SidesWithin Was triples → SidesWithin Is (map (mapped_triple f) triples)
triples_told f Was Is [] so h = tt
triples_told f Was Is (t ∷ triples) so h = ((slot_told f Was Is t.before so h.0.0, slot_told f Was Is t.after so h.0.1), triples_told f Was Is triples so h.1)

entries_told : (f : Place → Place) (Was Is : Place → Type 0) (entries : List EntryFields) → MapsWithin Was Is f → AllByRecursion (TellsWithin Was) entries → AllByRecursion (TellsWithin Is) (mapped_entries f entries)
entries_told f Was Is [] so h = tt
entries_told f Was Is (e ∷ entries) so h = (triples_told f Was Is e.triples so h.0, entries_told f Was Is entries so h.1)

pub told_mapped : (Was Is : Place → Type 0) (f : Place → Place) → AMappedChainTellsOfMappedPlaces Was Is f
told_mapped Was Is f i entries so h = record {
  pointers = λ k. subst (λ (slot : Option Place). IfSome slot Is) (sym (pointer_mapped f i k)) (slot_told f Was Is (pointer_at i k) so (h.pointers k));
  sides = entries_told f Was Is entries so h.sides;
}

pub pointed_mapped : (f : Place → Place) → EachPlaceIsPointedToMapped f
pointed_mapped f first entries p (u, k, at) =
    (u, k, ap (λ (i : Inode). pointer_at i k) (inode_after_mapped f first entries u) ∙ pointer_mapped f (inode_after first entries u) k ∙ ap (mapped_slot f) at)

-- ---- out of the frame

is_there : (slot : Option Place) → is_some slot ≡ true → (q : Place) × (slot ≡ Some q)
is_there None h = absurd (cc)
is_there (Some q) h = (q, refl)

goes_out : (r : RenamingFields) → LeadsWithin (IsOutside r) r → MapsWithin (Passes (moves_out r)) (IsOutside r) (renamed r)
goes_out r leads p moves = elim (cases_Bool (is_in r p)) [
  | inl inside ↦ (let there : is_some (move_of r p.block) ≡ true = sym (ap (λ b. not b || is_some (move_of r p.block)) inside) ∙ moves in
      let found = is_there (move_of r p.block) there in
      let place : new_place r p ≡ Some found.0 = cond-true (is_in r p) (move_of r p.block) None inside ∙ found.1 in
      subst (λ (z : Place). IsOutside r z) (sym (renamed_moves r p found.0 place)) (leads p.block found.0 found.1))
  | inr outside ↦ (let none : new_place r p ≡ None = cond-false (is_in r p) (move_of r p.block) None outside in
      subst (λ (z : Place). IsOutside r z) (sym (renamed_stays r p none)) outside)
]

pub out_of_the_frame : ARenamedChainIsOutOfTheFrame
out_of_the_frame r i entries told leads = told_mapped (Passes (moves_out r)) (IsOutside r) (renamed r) i entries (goes_out r leads) told

-- ---- the inodes of a chain

set_within : (Is : Place → Type 0) (slots : List (Option Place)) (i k : ℕ) (slot : Option Place) → ((n : ℕ) → IfSome (get_or slots n None) Is) → IfSome slot Is → IfSome (get_or (set slots i slot) k None) Is
set_within Is [] i k slot h is = h k
set_within Is (s ∷ slots) zero zero slot h is = is
set_within Is (s ∷ slots) zero (suc k) slot h is = h (suc k)
set_within Is (s ∷ slots) (suc i) zero slot h is = h zero
set_within Is (s ∷ slots) (suc i) (suc k) slot h is = set_within Is slots i k slot (λ n. h (suc n)) is

after_within : (Is : Place → Type 0) (triples : List Triple) (slots : List (Option Place)) (k : ℕ) → ((n : ℕ) → IfSome (get_or slots n None) Is) → SidesWithin Is triples → IfSome (get_or (with_after triples slots) k None) Is
after_within Is [] slots k h told = h k
after_within Is (t ∷ triples) slots k h told = after_within Is triples (set slots t.index t.after) k (λ n. set_within Is slots t.index n t.after h told.0.1) told.1

redone_within : (Is : Place → Type 0) (e : EntryFields) (i : Inode) → PointsWithin Is i → TellsWithin Is e → PointsWithin Is (redone e i)
unfolding redone
redone_within Is e i h told k = after_within Is e.triples i.pointers k h told

all_within : (Is : Place → Type 0) (entries : List EntryFields) (i : Inode) → PointsWithin Is i → AllByRecursion (TellsWithin Is) entries → PointsWithin Is (redone_all entries i)
all_within Is [] i h told = h
all_within Is (e ∷ entries) i h told = all_within Is entries (redone e i) (redone_within Is e i h told.0) told.1

pub all_cond : (P : EntryFields → Type 0) (b : Bool) (e : EntryFields) (entries : List EntryFields) → P e → AllByRecursion P entries → AllByRecursion P (cond b (e ∷ entries) entries)
all_cond P true e entries is h = (is, h)
all_cond P false e entries is h = h

pub by_within : (P : EntryFields → Type 0) (t : ℕ) (entries : List EntryFields) → AllByRecursion P entries → AllByRecursion P (entries_by t entries)
by_within P t [] h = tt
by_within P t (e ∷ entries) h = all_cond P (entry_is_by t e) e (entries_by t entries) h.0 (by_within P t entries h.1)

pub points_within : (Is : Place → Type 0) (first : Inode) (entries : List EntryFields) (t : ℕ) → ToldWithin Is first entries → PointsWithin Is (inode_after first entries t)
points_within Is first entries t told = all_within Is (entries_by t entries) first told.pointers (by_within (TellsWithin Is) t entries told.sides)

pub points_to_what_it_tells : AChainPointsToWhatItTells
points_to_what_it_tells test = points_within (Passes test)

-- ---- either end

before_within : (Is : Place → Type 0) (triples : List Triple) (slots : List (Option Place)) (k : ℕ) → ((n : ℕ) → IfSome (get_or slots n None) Is) → SidesWithin Is triples → IfSome (get_or (with_before triples slots) k None) Is
before_within Is [] slots k h told = h k
before_within Is (t ∷ triples) slots k h told = before_within Is triples (set slots t.index t.before) k (λ n. set_within Is slots t.index n t.before h told.0.0) told.1

undone_within : (Is : Place → Type 0) (e : EntryFields) (j : Inode) → PointsWithin Is j → TellsWithin Is e → PointsWithin Is (undone e j)
unfolding undone
undone_within Is e j h told k = before_within Is e.triples j.pointers k h told

all_undone_within : (Is : Place → Type 0) (entries : List EntryFields) (j : Inode) → PointsWithin Is j → AllByRecursion (TellsWithin Is) entries → PointsWithin Is (undone_all entries j)
all_undone_within Is [] j h told = h
all_undone_within Is (e ∷ entries) j h told = undone_within Is e (undone_all entries j) (all_undone_within Is entries j h told.1) told.0

from_the_end : (Is : Place → Type 0) (i : Inode) (entries : List EntryFields) → ToldWithin Is i entries → ToldWithin Is (redone_all entries i) entries
from_the_end Is i entries h = record { pointers = all_within Is entries i h.pointers h.sides; sides = h.sides }

from_the_beginning : (Is : Place → Type 0) (i : Inode) (entries : List EntryFields) → ToldWithin Is i entries → ToldWithin Is (undone_all entries i) entries
from_the_beginning Is i entries h = record { pointers = all_undone_within Is entries i h.pointers h.sides; sides = h.sides }

pub from_either_end : AChainIsToldFromEitherEnd
from_either_end test i entries h = (from_the_end (Passes test) i entries h, from_the_beginning (Passes test) i entries h)

pub apart_from_either_end : ApartFromEitherEnd
apart_from_either_end r i entries apart =
    (record { distinct = apart.distinct; told = from_the_end (IsNotNew r) i entries apart.told }, record { distinct = apart.distinct; told = from_the_beginning (IsNotNew r) i entries apart.told })
