-- Objects of a drive that was saved: what contracts see of each, and what is asked of all of them.
use Rattle.std.specs.Prelude.{◌≡◌, ℕ, ◌<◌, List, [], ◌∷◌, map, Option, IfSome}
use Rattle.s4_types.specs.Pointer.{Place}
use Rattle.block_log.specs.Log.{Stored}
use Rattle.codec.specs.declared.inodes.Inode.{Inode}
use Rattle.codec.specs.Entry.{EntryFields}
use Rattle.time_read.specs.Undoings.{Undoing, undoing_of}
use Rattle.object_map.specs.declared.map.Row.{Row}
use Rattle.time_read.specs.Rows.{entries_of, inode_of}

-- an object's number, its row, its present inode, and what its index tells, if it has one
pub record OpenedFields : Type 0 where
  pub object : ℕ
  pub row : Row
  pub inode : Inode
  pub index : Option (List Undoing)

-- an index that is there tells what undoes each of these entries
abbrev pub IndexesEntries : OpenedFields → List EntryFields → Type 0
IndexesEntries opened entries = IfSome opened.index (λ undoings. undoings ≡ map undoing_of entries)

-- the numbers of objects
abbrev pub numbers_opened : List OpenedFields → List ℕ
numbers_opened objects = map (λ x. x.object) objects

-- the rows of objects, each under its object's number
abbrev pub rows_opened : List OpenedFields → List (ℕ × Row)
rows_opened objects = map (λ x. (x.object, x.row)) objects

-- the first number is above this one, and each of the others above the one before it
abbrev pub AscendAbove : ℕ → List ℕ → Type 0
AscendAbove low [] = Unit {0}
AscendAbove low (number ∷ numbers) = (low < number) × AscendAbove number numbers

-- each number is above the one before it
abbrev pub NumbersAscend : List ℕ → Type 0
NumbersAscend [] = Unit {0}
NumbersAscend (number ∷ numbers) = AscendAbove number numbers

-- An object's inode is the one that its row has at a moment, over the blocks that are held, and its index is one of the
-- entries of its row's journal.
pub record FitsItsRow (held : Place → Option Stored) (latest : ℕ) (opened : OpenedFields) : Type 0 where
  pub inode : opened.inode ≡ inode_of held opened.object opened.row latest
  pub entries : IndexesEntries opened (entries_of held opened.object opened.row)
