-- A change of which journal blocks may be lost, and an object without it.
use Rattle.std.specs.Prelude.{ℕ, ◌+◌, ◌-◌, ◌*◌, ◌==◌, ◌&&◌, ◌||◌, not, nat_le, nat_lt, if◌then◌else◌, Bool, false, List, length, slice_get, Option, Some, None}
use Rattle.s4_types.specs.Pointer.{Place}
use Rattle.s4_types.specs.declared.limits.TheConstants.{BLOCK_BYTES, ENTRY_TRIPLES, OBJECT_BLOCKS, PAYLOAD_BLOCKS}
use Rattle.block_log.specs.Log.{Stored}
use Rattle.codec.specs.declared.inodes.Inode.{Inode}
use Rattle.codec.specs.declared.entries.Triple.{Triple}
use Rattle.codec.specs.Entry.{EntryFields}
use Rattle.image_objects.specs.declared.rows.ImageRow.{ImageRow}
use Rattle.image_objects.specs.Chains.{entries_used}
use Rattle.image_objects.specs.VersionChain.{present_used}
use Rattle.image_objects.specs.Objects.{inode_used}

-- Whether the change of an entry can have no pointer after the last one of this entry: an object has no further block. Nor has it one where it
-- ends there and didn't end later before the change. That is known of a change's first entry, before which the object was changed earlier.
abbrev pub is_at_end : EntryFields → Option Triple → Bool
is_at_end e None = false
is_at_end e (Some t) =
    t.index + 1 == OBJECT_BLOCKS || (nat_lt e.before.changed e.moment && (nat_le e.before.size e.after.size && nat_le e.after.size (BLOCK_BYTES * (t.index + 1))))

-- Whether the change of an entry may have another entry after this one. A drive gives each of them but the last as many pointers as an entry
-- may have, by ascending index.
abbrev pub may_go_on : EntryFields → Bool
may_go_on e = length e.triples == ENTRY_TRIPLES && not (is_at_end e (slice_get e.triples (length e.triples - 1)))

-- Whether the next entry of a journal would be in another frame than its newest block. A drive appends the blocks of a change one after
-- another. Of a whole frame all blocks are known, and one with a later entry of the change would be the newest.
abbrev pub is_last_of_frame : Option Place → Bool
is_last_of_frame None = false
is_last_of_frame (Some p) = p.block == PAYLOAD_BLOCKS

-- the newest of entries, which are the oldest first
abbrev pub newest_of : List EntryFields → Option EntryFields
newest_of entries = slice_get entries (length entries - 1)

-- the moment of the newest entry, where its change may not be whole
abbrev pub cut_at : Bool → Option EntryFields → Option ℕ
cut_at ends None = None
cut_at ends (Some e) = if ends && may_go_on e then Some e.moment else None

-- the moment of the newest change of a row, where it may not be whole
abbrev pub cut_moment : (Place → Option Stored) → ImageRow → Option ℕ
cut_moment used row = cut_at (is_last_of_frame row.head) (newest_of (entries_used used row))

-- the inode of a row after all of its entries, or after those before a moment
abbrev pub inode_before : (Place → Option Stored) → ImageRow → Option ℕ → Inode
inode_before used row None = present_used used row
inode_before used row (Some m) = inode_used used row (m - 1)

-- The inode of a row after its last change that is whole.
abbrev pub whole_inode : (Place → Option Stored) → ImageRow → Inode
whole_inode used row = inode_before used row (cut_moment used row)
