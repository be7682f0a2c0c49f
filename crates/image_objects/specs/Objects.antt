-- When an object is in an image: its row's version chain is, its pointers refer to its data, and its inodes are tidy.
use Rattle.std.specs.Prelude.{ℕ, List, ◌++◌, Option}
use Rattle.std.specs.List.{All}
use Rattle.s4_types.specs.Pointer.{Place}
use Rattle.block_log.specs.Log.{Stored}
use Rattle.codec.specs.declared.inodes.Inode.{Inode}
use Rattle.undo_redo.specs.Runs.{inode_after}
use Rattle.inode.specs.Contents.{contents_of}
use Rattle.inode.specs.Tidiness.{Tidy}
use Rattle.version_store.specs.Store.{IsLed, pointers_kept, sides_told}
use Rattle.image_objects.specs.declared.rows.ImageRow.{ImageRow}
use Rattle.image_objects.specs.Chains.{entries_used}
use Rattle.image_objects.specs.Inodes.{checkpoint_used, first_used}
use Rattle.image_objects.specs.VersionChain.{VersionChainStands}

-- All pointers to data that a row of an image leads to, holes among them: those of its checkpoint, and after them both sides
-- of each triple of its chain, the oldest entry first.
abbrev pub pointers_used : (Place → Option Stored) → ImageRow → List (Option Place)
pointers_used used row = pointers_kept (checkpoint_used used row) ++ sides_told (entries_used used row)

-- the inode of a row of an image that is current at a moment
abbrev pub inode_used : (Place → Option Stored) → ImageRow → ℕ → Inode
inode_used used row t = inode_after (first_used used row) (entries_used used row) t

-- An object is in an image up to its clock. Its version chain is; each pointer that its row refers to is a hole or refers to a
-- used data block of the object; and at each moment its inode is tidy. So an inode that is between two entries of one
-- moment need not be.
pub record ObjectStands (used : Place → Option Stored) (row : ImageRow) (clock : ℕ) : Type 0 where
  pub versions : VersionChainStands used row clock
  pub led : All (IsLed used row.object) (pointers_used used row)
  pub tidy : (t : ℕ) → Tidy (contents_of used) (inode_used used row t)
