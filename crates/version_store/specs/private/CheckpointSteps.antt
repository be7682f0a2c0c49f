-- What one checkpoint leaves of a whole store. No public clause cites this file.
use Rattle.std.specs.Prelude.{◌≡◌, ℕ, ◌≤◌, true, Some, IfSome, is_some}
use Rattle.codec.specs.declared.inodes.Inode.{Inode}
use Rattle.undo_redo.specs.Runs.{AllBy}
use Rattle.checkpoint.specs.Held.{checkpoint_blocks}
use Rattle.object_map.specs.declared.map.Row.{Row}
use Rattle.object_map.specs.Rows.{row_of}
use Rattle.time_read.specs.Rows.{entries_of, inode_of}
use Rattle.version_store.specs.Store.{StoreFields, IsStore}
use Rattle.version_store.specs.Versions.{inode_in, version_in}
use Rattle.version_store.specs.Costs.{room}
use Rattle.version_store.specs.Checkpointing.{last_entry, is_behind, IsCheckpointed}

-- The checkpoint of an object with this row has to be written, there is room for it, and this inode and this moment are
-- those of the last entry.
pub record CanCheckpoint (s : StoreFields) (o : ℕ) (row : Row) (i : Inode) (m : ℕ) : Type 0 where
  pub store : IsStore s
  pub there : row_of s.rows o ≡ Some row
  pub moment : m ≡ last_entry s.log.held o row
  pub behind : is_behind s.log.held o row ≡ true
  pub inode : i ≡ inode_of s.log.held o row m
  pub room : checkpoint_blocks i ≤ room s

-- All inodes and versions of a store are as they were, and the same objects have rows.
pub record StandsAsBefore (s later : StoreFields) : Type 0 where
  pub store : IsStore later
  pub versions : (o t : ℕ) → version_in later o t ≡ version_in s o t
  pub inodes : (o t : ℕ) → inode_in later o t ≡ inode_in s o t
  pub latest : later.latest ≡ s.latest
  pub rows : (o : ℕ) → is_some (row_of later.rows o) ≡ is_some (row_of s.rows o)

-- the checkpoint was written
pub record Checkpointed (s : StoreFields) (o : ℕ) (row : Row) (later : StoreFields) : Type 0 where
  pub stands : StandsAsBefore s later
  pub made : IsCheckpointed s o row later
  pub current : IfSome (row_of later.rows o) (λ r. AllBy r.checkpoint_moment (entries_of later.log.held o r))
