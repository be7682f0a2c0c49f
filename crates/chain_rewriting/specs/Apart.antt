-- Of which places a chain tells, and when a renaming is apart from it: no new place is one of these.
use Rattle.std.specs.Prelude.{◌≡◌, ◌≢◌, ℕ, Bool, true, false, not, ◌||◌, List, [], ◌∷◌, ◌++◌, Option, Some, None, is_some}
use Rattle.std.specs.List.{AllByRecursion, flat_map}
use Rattle.s4_types.specs.Pointer.{Place}
use Rattle.codec.specs.declared.inodes.Inode.{Inode}
use Rattle.codec.specs.Entry.{EntryFields}
use Rattle.chain_rewriting.specs.CleaningLaws.{PointsWithin, TellsWithin}
use Rattle.chain_rewriting.specs.Renaming.{RenamingFields, move_of, is_in, new_place}

-- each place of which an inode and entries tell is of this kind: each pointer of the inode, and both sides of each triple
pub record ToldWithin (Is : Place → Type 0) (i : Inode) (entries : List EntryFields) : Type 0 where
  pub pointers : PointsWithin Is i
  pub sides : AllByRecursion (TellsWithin Is) entries

-- a place that passes a test
abbrev pub Passes : (Place → Bool) → Place → Type 0
Passes test p = test p ≡ true

-- All pointers of which an inode and entries tell, holes among them: those of the inode, and after them both sides of each
-- triple, the oldest entry first.
abbrev pub slots_told : Inode → List EntryFields → List (Option Place)
slots_told i entries = i.pointers ++ flat_map (λ e. flat_map (λ t. t.before ∷ t.after ∷ []) e.triples) entries

-- no two blocks move to one place
abbrev pub HasDistinctPlaces : RenamingFields → Type 0
HasDistinctPlaces r = (m n : ℕ) (p : Place) → move_of r m ≡ Some p → move_of r n ≡ Some p → m ≡ n

-- no block moves to the place
abbrev pub IsNotNew : RenamingFields → Place → Type 0
IsNotNew r p = (n : ℕ) → move_of r n ≢ Some p

-- The new places are distinct, and the chain tells of none of them.
pub record IsApart (r : RenamingFields) (first : Inode) (entries : List EntryFields) : Type 0 where
  pub distinct : HasDistinctPlaces r
  pub told : ToldWithin (IsNotNew r) first entries

-- the place isn't in the frame at that generation
abbrev pub IsOutside : RenamingFields → Place → Type 0
IsOutside r p = is_in r p ≡ false

-- where the place is in the frame at that generation, its block moves
abbrev pub moves_out : RenamingFields → Place → Bool
moves_out r p = not (is_in r p) || is_some (move_of r p.block)

-- each new place is of this kind
abbrev pub LeadsWithin : (Place → Type 0) → RenamingFields → Type 0
LeadsWithin Is r = (n : ℕ) (p : Place) → move_of r n ≡ Some p → Is p

-- The bytes after a move, for each place of this kind: where its block moves, they are at the new place; else they stand
-- where they stood.
pub record HasCopies (Is : Place → Type 0) (r : RenamingFields) (contents others : Place → List ℕ) : Type 0 where
  pub copied : (p q : Place) → Is p → new_place r p ≡ Some q → others q ≡ contents p
  pub stayed : (p : Place) → Is p → new_place r p ≡ None → others p ≡ contents p
