-- The inode and the version that an object has at a moment, by its row and the blocks that are held.
use Rattle.std.specs.Prelude.{◌≡◌, ℕ, ◌&&◌, nat_le, if◌then◌else◌, List, [], Option, Some, None, IsSome}
use Rattle.s4_types.specs.Pointer.{Place}
use Rattle.s4_types.specs.declared.changes.Change.{Change}
use Rattle.s4_types.specs.declared.versions.Version.{Version}
use Rattle.s4_types.specs.declared.versions.Version.TheVariants.{Absent}
use Rattle.s4_model.specs.Effect.{effect, is_change_of}
use Rattle.block_log.specs.declared.kinds.BlockKind.TheVariants.{Journal, Data}
use Rattle.block_log.specs.Log.{Stored, of_kind}
use Rattle.checkpoint.specs.Held.{of_checkpoints}
use Rattle.codec.specs.declared.inodes.Inode.{Inode}
use Rattle.codec.specs.Entry.{EntryFields}
use Rattle.object_map.specs.declared.map.Row.{Row}
use Rattle.object_map.specs.Rows.{row_of}
use Rattle.time_read.specs.Rows.{entries_of, inode_of}
use Rattle.time_read.specs.Starts.{least_distance}
use Rattle.inode.specs.Contents.{contents_of, meaning}
use Rattle.version_store.specs.Store.{StoreFields}

-- the journal entries of an object by its row, the oldest first; none where it has no row
abbrev pub entries_of_row : (Place → Option Stored) → ℕ → Option Row → List EntryFields
entries_of_row held o None = []
entries_of_row held o (Some row) = entries_of held o row

-- the journal entries of an object, the oldest first; none where it has no row
abbrev pub entries_of_object : StoreFields → ℕ → List EntryFields
entries_of_object s o = entries_of_row s.log.held o (row_of s.rows o)

-- the inode of an object at a moment, by its row: none where it has no row
abbrev pub inode_by : (Place → Option Stored) → ℕ → ℕ → Option Row → Option Inode
inode_by held o t None = None
inode_by held o t (Some row) = Some (inode_of held o row t)

-- the inode that an object has at a moment; none where it has no row
abbrev pub inode_in : StoreFields → ℕ → ℕ → Option Inode
inode_in s o t = inode_by s.log.held o t (row_of s.rows o)

-- how many entries lie between a moment's place in an object's journal and the nearest start of the way there, by its row: none
-- where it has no row
abbrev pub distance_by : (Place → Option Stored) → ℕ → ℕ → Option Row → Option ℕ
distance_by held o t None = None
distance_by held o t (Some row) = Some (least_distance held o row t)

-- how many entries of an object have to be undone or redone at least for its inode at a moment; none where it has no row
abbrev pub distance_in : StoreFields → ℕ → ℕ → Option ℕ
distance_in s o t = distance_by s.log.held o t (row_of s.rows o)

-- the version that an inode represents over the blocks that are held; Absent for none
abbrev pub version_by : (Place → Option Stored) → Option Inode → Version
version_by held None = Absent
version_by held (Some i) = meaning (contents_of held) i

-- the version that an object has at a moment; Absent where it has no row
abbrev pub version_in : StoreFields → ℕ → ℕ → Version
version_in s o t = version_by s.log.held (inode_in s o t)

-- the version that an object has at a moment after a change was taken at a later one
abbrev pub version_taken : StoreFields → Change → ℕ → ℕ → ℕ → Version
version_taken s change m o t = if is_change_of o change && nat_le m t then effect change m (version_in s o s.latest) else version_in s o t

-- The blocks of an object that make its versions are held as they were: its journal and its checkpoints are the same,
-- and each of its data blocks is still held.
pub record Stays (o : ℕ) (held later : Place → Option Stored) : Type 0 where
  pub journal : of_kind Journal o later ≡ of_kind Journal o held
  pub checkpoints : of_checkpoints o later ≡ of_checkpoints o held
  pub kept : (p : Place) → IsSome (of_kind Data o held p) → of_kind Data o later p ≡ of_kind Data o held p
