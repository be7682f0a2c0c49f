-- The inode of an object that is current at a moment, by the object's row and the blocks that a table holds.
use Rattle.std.specs.Prelude.{◌≡◌, ℕ, ◌<◌, ◌≤◌, true, List, [], ◌∷◌, ◌++◌, Option, Some, None, IsSome, MatchOption}
use Rattle.std.specs.List.{AllByRecursion, flat_map}
use Rattle.s4_types.specs.Pointer.{Place}
use Rattle.block_log.specs.Log.{Stored}
use Rattle.codec.specs.Fields.{◌>>=◌}
use Rattle.codec.specs.declared.inodes.Inode.{Inode}
use Rattle.codec.specs.Entry.{EntryFields}
use Rattle.codec.specs.Checkpoint.{CheckpointFields}
use Rattle.undo_redo.specs.Runs.{Run, blank, redone_all, undone_all, entries_by, inode_after}
use Rattle.undo_redo.specs.Groups.{grouped}
use Rattle.checkpoint.specs.Held.{checkpoint_held, of_checkpoints, places_in, places_named, is_one_of}
use Rattle.object_map.specs.declared.map.Row.{Row}
use Rattle.object_map.specs.declared.sides.Side.{Side}
use Rattle.journal_chain.specs.Chain.{ChainFields, Holds, entries_held}

-- the chain of journal blocks that an object's row tells of
abbrev pub chain_of : ℕ → Row → ChainFields
chain_of o row = record { object = o; head = row.head; bytes = row.journal_bytes; filled = row.head_bytes }

-- the entries of an object's chain, oldest first
abbrev pub entries_of : (Place → Option Stored) → ℕ → Row → List EntryFields
entries_of held o row = entries_held held (chain_of o row)

-- the checkpoint that an object's row names: none where it names none, or where no checkpoint of the object is held there
abbrev pub checkpoint_of : (Place → Option Stored) → ℕ → Row → Option CheckpointFields
checkpoint_of held o row = row.checkpoint >>= checkpoint_held held o

-- the places of the blocks of the checkpoint that an object's row names
abbrev pub checkpoint_places_of : (Place → Option Stored) → ℕ → Row → List Place
checkpoint_places_of held o row = places_named (of_checkpoints o held) row.checkpoint

-- the places of the blocks of older checkpoints, those of the oldest first
abbrev pub side_places : (Place → Option (List ℕ)) → List Side → List Place
side_places view sides = flat_map (λ side. places_in view side.place) sides

-- the places of the blocks of all checkpoints that an object's row names: its newest, and the older ones
abbrev pub all_places_of : (Place → Option Stored) → ℕ → Row → List Place
all_places_of held o row = checkpoint_places_of held o row ++ side_places (of_checkpoints o held) row.sides

-- The inode before all entries. Without a checkpoint it is the blank one; else the checkpoint's, with all entries up to
-- the checkpoint's moment undone.
unfoldable pub inode_before : ℕ → ℕ → List EntryFields → Option CheckpointFields → Inode
inode_before created moment entries None = blank created
inode_before created moment entries (Some c) = undone_all (entries_by moment entries) c.inode

-- the inode before the first entry of an object's chain
abbrev pub first_of : (Place → Option Stored) → ℕ → Row → Inode
first_of held o row = inode_before row.created row.checkpoint_moment (entries_of held o row) (checkpoint_of held o row)

-- The inode of an object that is current at a moment: from the one before the first entry on, all entries up to the
-- moment are done.
unfoldable pub inode_of : (Place → Option Stored) → ℕ → Row → ℕ → Inode
inode_of held o row t = inode_after (first_of held o row) (entries_of held o row) t

-- The inode after all entries of an object: its present one.
abbrev pub last_inode : (Place → Option Stored) → ℕ → Row → Inode
last_inode held o row = redone_all (entries_of held o row) (first_of held o row)

-- An older checkpoint of an object tells the inode that is current at its moment, which is before that of the row's newest.
pub record IsSide (held : Place → Option Stored) (o : ℕ) (row : Row) (side : Side) : Type 0 where
  pub told : checkpoint_held held o side.place ≡ Some (record { object = o; moment = side.moment; inode = inode_of held o row side.moment })
  pub older : side.moment < row.checkpoint_moment

-- the moments of older checkpoints ascend
abbrev pub SidesAscend : List Side → Type 0
SidesAscend [] = Unit {0}
SidesAscend (side ∷ sides) = AllByRecursion (λ later. side.moment < later.moment) sides × SidesAscend sides

-- The blocks of an object are as its row tells. Its chain is held; the entries lead from the first inode to a last one,
-- and their moments don't descend. Where the row names a checkpoint, that tells the inode which is current at the
-- checkpoint's moment; else that moment is 0. Its older checkpoints tell the inodes of their moments, which ascend. No block
-- of another checkpoint of the object is held. The object was made when the row tells.
pub record IsRow (held : Place → Option Stored) (o : ℕ) (row : Row) : Type 0 where
  pub object : 1 ≤ o
  pub chain : Holds held (chain_of o row) (entries_of held o row)
  pub last : Inode
  pub run : Run (first_of held o row) (entries_of held o row) last
  pub groups : grouped (entries_of held o row) ≡ true
  pub checkpoint : MatchOption row.checkpoint (row.checkpoint_moment ≡ 0) (λ p. checkpoint_held held o p ≡ Some (record { object = o; moment = row.checkpoint_moment; inode = inode_of held o row row.checkpoint_moment }))
  pub sides : AllByRecursion (IsSide held o row) row.sides
  pub ascending : SidesAscend row.sides
  pub only : (p : Place) → IsSome (of_checkpoints o held p) → is_one_of (all_places_of held o row) p ≡ true
  pub created : (first_of held o row).created ≡ row.created
