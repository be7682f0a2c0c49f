-- What holds of an object's row besides what its blocks tell: how its moments lie, and which of its inodes may be dead. It
-- speaks of moments that nobody can read any more, too.
use Rattle.std.specs.Prelude.{◌≡◌, ℕ, ◌≤◌, ◌<◌, true, false, List, [], ◌∷◌, length, take, Option, MatchOption}
use Rattle.std.specs.List.{AllByRecursion}
use Rattle.s4_types.specs.Pointer.{Place}
use Rattle.block_log.specs.Log.{Stored}
use Rattle.codec.specs.declared.inodes.Inode.{Inode}
use Rattle.codec.specs.Entry.{EntryFields}
use Rattle.undo_redo.specs.Runs.{redone_all, blank}
use Rattle.object_map.specs.declared.map.Row.{Row}
use Rattle.time_read.specs.Rows.{entries_of, first_of}

-- The inode of a chain after this many of its entries: after none the first, and after as many as there are, or more,
-- the last.
abbrev pub inode_behind : Inode → List EntryFields → ℕ → Inode
inode_behind first entries n = redone_all (take n entries) first

-- a moment from a first one to a last one
abbrev pub IsFromTo : ℕ → ℕ → ℕ → Type 0
IsFromTo first last t = (first ≤ t) × (t ≤ last)

-- there are entries, and before the first of them the object was dead
abbrev pub BeginsDead : List EntryFields → Type 0
BeginsDead [] = ⊥
BeginsDead (e ∷ entries) = e.before.alive ≡ false

-- Entries that lead from a first inode on, of an object made at this moment, are in order up to a latest moment. Each is
-- of a moment from the making to the latest; so is the last change of each live inode, the first among them. A dead inode
-- is the first or the last. The first, where it is dead, is blank. At least one inode is live.
pub record IsOrderlyChain (created latest : ℕ) (first : Inode) (entries : List EntryFields) : Type 0 where
  pub moments : AllByRecursion (λ e. IsFromTo created latest e.moment) entries
  pub changed : (n : ℕ) → (inode_behind first entries n).alive ≡ true → IsFromTo created latest (inode_behind first entries n).changed
  pub between : (n : ℕ) → 0 < n → n < length entries → (inode_behind first entries n).alive ≡ true
  pub beginning : first.alive ≡ false → first ≡ blank created
  pub live : (n : ℕ) × ((inode_behind first entries n).alive ≡ true)

-- An object's row is in order up to a latest moment: the object was made from moment 1 to the latest, and its chain is in
-- order. Where the row names a checkpoint, that is of a moment from the making to the latest; where it names none, the
-- chain tells the making.
pub record IsOrderly (held : Place → Option Stored) (o : ℕ) (row : Row) (latest : ℕ) : Type 0 where
  pub made : IsFromTo 1 latest row.created
  pub chain : IsOrderlyChain row.created latest (first_of held o row) (entries_of held o row)
  pub checkpoint : MatchOption row.checkpoint (BeginsDead (entries_of held o row)) (λ p. IsFromTo row.created latest row.checkpoint_moment)
