-- How many blocks are held for the past alone.
use Rattle.std.specs.Prelude.{◌≡◌, ℕ, ◌+◌, ◌-◌, ◌≤◌, if◌then◌else◌, is_some, count_by, length, Option, Some, None}
use Rattle.checkpoint.specs.Held.{checkpoint_blocks}
use Rattle.codec.specs.declared.inodes.Inode.{Inode}
use Rattle.segment_table.specs.Table.{Table}
use Rattle.segment_table.specs.Room.{sum_over}
use Rattle.segment_table.specs.Counts.{held_count}
use Rattle.version_store.specs.Store.{StoreFields}
use Rattle.version_store.specs.Versions.{inode_in}
use Rattle.drive.specs.Fields.{DriveFields, state_in, store_of}

-- how many blocks an object of this inode needs for it alone: a checkpoint, and its data; none where it isn't live
abbrev pub blocks_of_inode : Option Inode → ℕ
blocks_of_inode None = 0
blocks_of_inode (Some i) = if i.alive then checkpoint_blocks i + count_by is_some i.pointers else 0

-- how many blocks an object needs for what it is at a moment
abbrev pub present_blocks : StoreFields → ℕ → ℕ → ℕ
present_blocks s t o = blocks_of_inode (inode_in s o t)

-- how many blocks of all frames are held
abbrev pub held_blocks : Table → ℕ
held_blocks t = sum_over (held_count t) 0 (length t.seat.frames)

-- This number of blocks is held beside those that all objects need for what they are at the clock.
pub record IsPast (d : DriveFields) (past : ℕ) : Type 0 where
  pub bound : ℕ
  pub beyond : (o : ℕ) → bound ≤ o → present_blocks (store_of d) (state_in d).clock o ≡ 0
  pub number : past ≡ held_blocks d.store.table - sum_over (present_blocks (store_of d) (state_in d).clock) 0 bound
