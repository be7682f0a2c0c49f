-- What a cache of inodes has of an object.
use Rattle.std.specs.Prelude.{◌≡◌, ◌⊎◌, ℕ, List, Option, Some, option_map, Contains}
use Rattle.s4_types.specs.Pointer.{Place}
use Rattle.block_log.specs.Log.{Stored}
use Rattle.codec.specs.declared.inodes.Inode.{Inode}
use Rattle.checkpoint.specs.declared.cache.CacheKey.{CacheKey}
use Rattle.object_map.specs.declared.map.Row.{Row}
use Rattle.time_read.specs.Rows.{checkpoint_of}

-- what the inode of the checkpoint that an object's row names is kept under
abbrev pub key_of : ℕ → Row → CacheKey
key_of o row = record { object = o; stamp = row.stamp }

-- the row names a checkpoint, which has this inode
abbrev pub HasInode : (Place → Option Stored) → ℕ → Row → Inode → Type 0
HasInode held o row i = option_map (λ c. c.inode) (checkpoint_of held o row) ≡ Some i

-- what is kept under the row's key, if anything is, is the inode of the row's checkpoint
abbrev pub IsTrueOf : List (CacheKey × Inode) → (Place → Option Stored) → ℕ → Row → Type 0
IsTrueOf pairs held o row = (i : Inode) → Contains pairs (key_of o row, i) → HasInode held o row i

-- nothing was added but, under the row's key, the inode of the row's checkpoint
abbrev pub AddsTrue : (Place → Option Stored) → ℕ → Row → List (CacheKey × Inode) → List (CacheKey × Inode) → Type 0
AddsTrue held o row before after = (e : CacheKey × Inode) → Contains after e → Contains before e ⊎ ((e.0 ≡ key_of o row) × HasInode held o row e.1)
