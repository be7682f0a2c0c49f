-- What a change of an object takes of a store, told from its inode before any block is written; and when it is refused.
use Rattle.std.specs.Prelude.{ℕ, ◌+◌, ◌-◌, ◌*◌, ◌&&◌, Bool, nat_le, nat_lt, if◌then◌else◌, List, length, drop, sum, Option, Some, None, is_some}
use Rattle.std.specs.List.{count_by, range_with_len}
use Rattle.s4_types.specs.declared.changes.Change.{Change}
use Rattle.s4_types.specs.declared.changes.Change.TheVariants.{Create, Delete, Write, Truncate, SetAttr, SetWindow, Flush, FlushO}
use Rattle.s4_types.specs.declared.limits.TheConstants.{CHAIN_ENTRY_BYTES, RESERVE_BLOCKS, OBJECT_BLOCKS}
use Rattle.s4_types.specs.declared.refusals.Refusal.{Refusal}
use Rattle.s4_types.specs.declared.refusals.Refusal.TheVariants.{ChainFull, NoSpace}
use Rattle.s4_model.specs.Effect.{object_of}
use Rattle.codec.specs.Checkpoint.{pointer_at}
use Rattle.codec.specs.Entry.{pair_length}
use Rattle.codec.specs.declared.inodes.Inode.{Inode}
use Rattle.journal_chain.specs.Sizes.{blocks_needed}
use Rattle.undo_redo.specs.Between.{pair_between}
use Rattle.undo_redo.specs.Sizes.{entry_sizes}
use Rattle.inode.specs.Touched.{touched_count, cut_count}
use Rattle.object_map.specs.declared.map.Row.{Row}
use Rattle.object_map.specs.Rows.{row_of, fresh_row}
use Rattle.time_read.specs.Rows.{inode_of}
use Rattle.version_store.specs.Store.{StoreFields}

-- a row, or that of an object created at this moment
abbrev pub row_or_fresh : ℕ → Option Row → Row
row_or_fresh m None = fresh_row m
row_or_fresh m (Some row) = row

-- the row of an object; the one of its creation at this moment where it has none
abbrev pub subject_row : StoreFields → ℕ → ℕ → Row
subject_row s o m = row_or_fresh m (row_of s.rows o)

-- the inode that a change of an object at this moment begins with; the blank one where the object has no row
abbrev pub subject_inode : StoreFields → ℕ → ℕ → Inode
subject_inode s o m = inode_of s.log.held o (subject_row s o m) s.latest

-- whether the block of an index is past a size, and isn't a hole
abbrev pub is_past : Inode → ℕ → ℕ → Bool
is_past i size k = nat_le size (512 * k) && is_some (pointer_at i k)

-- how many blocks of an inode are past a size
unfoldable pub past_count : Inode → ℕ → ℕ
past_count i size = count_by (is_past i size) (range_with_len 0 OBJECT_BLOCKS)

-- how many pointers of an inode a change replaces
abbrev pub pointers_moved : Change → Inode → ℕ
pointers_moved (Create object attribute) i = 0
pointers_moved (Delete object) i = 0
pointers_moved (Write object offset bytes) i = touched_count offset (length bytes)
pointers_moved (Truncate object size) i = past_count i size + cut_count i size
pointers_moved (SetAttr object attribute) i = 0
pointers_moved (SetWindow window) i = 0
pointers_moved (Flush first last) i = 0
pointers_moved (FlushO object first last) i = 0

-- how many data blocks a change of an inode appends
abbrev pub data_blocks : Change → Inode → ℕ
data_blocks (Create object attribute) i = 0
data_blocks (Delete object) i = 0
data_blocks (Write object offset bytes) i = touched_count offset (length bytes)
data_blocks (Truncate object size) i = cut_count i size
data_blocks (SetAttr object attribute) i = 0
data_blocks (SetWindow window) i = 0
data_blocks (Flush first last) i = 0
data_blocks (FlushO object first last) i = 0

-- the attribute that an inode has after a change
abbrev pub attribute_by : Change → Inode → List ℕ
attribute_by (Create object attribute) i = attribute
attribute_by (Delete object) i = i.attribute
attribute_by (Write object offset bytes) i = i.attribute
attribute_by (Truncate object size) i = i.attribute
attribute_by (SetAttr object attribute) i = attribute
attribute_by (SetWindow window) i = i.attribute
attribute_by (Flush first last) i = i.attribute
attribute_by (FlushO object first last) i = i.attribute

-- how many bytes each journal entry of a change of an inode has
abbrev pub sizes_by : Change → Inode → List ℕ
sizes_by change i = entry_sizes (pointers_moved change i) (pair_length (pair_between i.attribute (attribute_by change i)))

-- how many blocks changes of objects may still append: the reserve is not theirs
abbrev pub room : StoreFields → ℕ
room s = length s.log.ahead - RESERVE_BLOCKS

-- A store as it would be with so many fewer places ahead: what is judged by its room is judged by the room less these, down to
-- none. With 0 it is the store itself.
abbrev pub short_of : ℕ → StoreFields → StoreFields
short_of least s = record s { log = record s.log { ahead = drop least s.log.ahead } }

-- how many blocks a change of an inode appends, where the object has this row
abbrev pub blocks_by : Change → Row → Inode → ℕ
blocks_by change row i = data_blocks change i + blocks_needed row.head_bytes (sizes_by change i)

-- Why a change of an inode is refused where the object has this row and there is so much room, if it is: its journal would
-- be too long, or else it needs more blocks than there is room for.
abbrev pub refusal_by : ℕ → Change → Row → Inode → Option Refusal
refusal_by space change row i =
    if nat_lt CHAIN_ENTRY_BYTES (row.journal_bytes + sum (sizes_by change i)) then Some ChainFull else
    (if nat_lt space (blocks_by change row i) then Some NoSpace else None)

-- how many blocks a change at this moment appends
abbrev pub blocks_taken : StoreFields → Change → ℕ → ℕ
blocks_taken s change m = blocks_by change (subject_row s (object_of change) m) (subject_inode s (object_of change) m)

-- why a change at this moment is refused, if it is
abbrev pub change_refusal : StoreFields → Change → ℕ → Option Refusal
change_refusal s change m = refusal_by (room s) change (subject_row s (object_of change) m) (subject_inode s (object_of change) m)
