-- What is beside the rows of a store. No public clause cites this file.
use Rattle.std.specs.Prelude.{◌≡◌, ℕ, ◌≤◌, List, Option, Some, option_map}
use Rattle.std.specs.List.{Contains}
use Rattle.s4_types.specs.Pointer.{Place}
use Rattle.block_log.specs.Log.{Stored}
use Rattle.codec.specs.declared.inodes.Inode.{Inode}
use Rattle.checkpoint.specs.declared.cache.CacheKey.{CacheKey}
use Rattle.object_map.specs.declared.map.Row.{Row}
use Rattle.object_map.specs.Objects.{value_of}
use Rattle.object_map.specs.Rows.{row_of}
use Rattle.time_read.specs.Caches.{HasInode}
use Rattle.time_read.specs.declared.presents.Present.{Present}
use Rattle.time_read.specs.Presents.{KeepsIndexOf}
use Rattle.version_store.specs.Store.{StoreFields}
use Rattle.version_store.specs.Versions.{inode_in, entries_of_object}

-- the inode beside an object's row
abbrev pub inode_beside : List (ℕ × Present) → ℕ → Option Inode
inode_beside values o = option_map (λ p. p.inode) (value_of values o)

-- An inode is kept under an object's number and a stamp: the object has a row, with that stamp or a higher one, and where the stamp
-- is that one, the row's checkpoint has this inode.
pub record IsTruePair (held : Place → Option Stored) (rows : List (ℕ × Row)) (e : CacheKey × Inode) : Type 0 where
  pub row : Row
  pub there : row_of rows e.0.object ≡ Some row
  pub upto : e.0.stamp ≤ row.stamp
  pub told : e.0.stamp ≡ row.stamp → HasInode held e.0.object row e.1

-- all inodes that are kept are such
abbrev pub IsTrueCache : (Place → Option Stored) → List (ℕ × Row) → List (CacheKey × Inode) → Type 0
IsTrueCache held rows pairs = (e : CacheKey × Inode) → Contains pairs e → IsTruePair held rows e

-- Beside the row of each object stands its present inode, and an index, if there is one, of the entries of its journal.
-- What is kept of inodes of checkpoints is true of the rows.
pub record IsBeside (values : List (ℕ × Present)) (pairs : List (CacheKey × Inode)) (s : StoreFields) : Type 0 where
  pub inodes : (o : ℕ) → inode_beside values o ≡ inode_in s o s.latest
  pub indexes : (o : ℕ) → KeepsIndexOf (value_of values o) (entries_of_object s o)
  pub cached : IsTrueCache s.log.held s.rows pairs
