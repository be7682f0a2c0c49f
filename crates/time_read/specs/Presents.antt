-- What is kept of an object beside its row: its present inode, and an index of the entries of its journal.
use Rattle.std.specs.Prelude.{◌≡◌, ℕ, ◌++◌, List, map, Option, IfSome}
use Rattle.codec.specs.declared.inodes.Inode.{Inode}
use Rattle.codec.specs.Entry.{EntryFields}
use Rattle.object_map.specs.declared.map.Row.{Row}
use Rattle.object_map.specs.Objects.{value_of, MapOf, Puts}
use Rattle.time_read.specs.Undoings.{Undoing, undoing_of}
use Rattle.time_read.specs.declared.presents.Present.{Present}

-- an index that is there tells what undoes each of these entries
abbrev pub IsIndexOf : Option (List Undoing) → List EntryFields → Type 0
IsIndexOf index entries = IfSome index (λ undoings. undoings ≡ map undoing_of entries)

-- so does the index of an object of which this is kept, if anything is
abbrev pub KeepsIndexOf : Option Present → List EntryFields → Type 0
KeepsIndexOf present entries = IfSome present (λ p. IsIndexOf p.index entries)

-- An object has this row, and beside it this inode and an index, if there is one, that tells these entries after those that it told;
-- all others are as they were.
pub record TurnsBeside (m : MapOf Present) (o : ℕ) (row : Row) (i : Inode) (entries : List EntryFields) (later : MapOf Present) : Type 0 where
  pub present : Present
  pub put : Puts m o row present later
  pub inode : present.inode ≡ i
  pub told : (older : List EntryFields) → KeepsIndexOf (value_of m.values o) older → IsIndexOf present.index (older ++ entries)
