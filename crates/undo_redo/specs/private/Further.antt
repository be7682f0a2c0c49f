-- The entries between two inodes as they are made, one after the other.
use Rattle.std.specs.Prelude.{◌≡◌, ℕ, ◌-◌, ◌<◌, ◌≤◌, true, List, map}
use Rattle.std.specs.List.{filter, range_with_len, AllByRecursion}
use Rattle.s4_types.specs.declared.limits.TheConstants.{OBJECT_BLOCKS}
use Rattle.codec.specs.declared.inodes.Inode.{Inode}
use Rattle.codec.specs.declared.entries.Triple.{Triple}
use Rattle.codec.specs.Checkpoint.{pointer_at}
use Rattle.codec.specs.Entry.{EntryFields, entry_rules}
use Rattle.undo_redo.specs.Between.{triple_between, tells_apart, later_entries}

-- the pointers that differ from an index on, by ascending index
unfoldable pub triples_from : ℕ → Inode → Inode → List Triple
triples_from n i j = filter tells_apart (map (triple_between i j) (range_with_len n (OBJECT_BLOCKS - n)))

-- the further entries that tell the pointers from an index on
unfoldable pub entries_from : Inode → Inode → ℕ → ℕ → List EntryFields
entries_from i j m n = later_entries j m (triples_from n i j)

-- from an index on no pointer differs
abbrev pub AreSameFrom : ℕ → Inode → Inode → Type 0
AreSameFrom end i j = (k : ℕ) → end ≤ k → k < OBJECT_BLOCKS → pointer_at i k ≡ pointer_at j k

-- Further entries of a moment are left, which tell the pointers from an index on, and none from an end on: all keep the rules.
pub record AreLeft (i j : Inode) (m from end : ℕ) : Type 0 where
  pub start : from ≤ OBJECT_BLOCKS
  pub stop : end ≤ OBJECT_BLOCKS
  pub same : AreSameFrom end i j
  pub rules : AllByRecursion (λ e. entry_rules e ≡ true) (entries_from i j m from)
