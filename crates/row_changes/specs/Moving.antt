-- What an object's row tells where its checkpoint, if it has one, and its whole journal are written anew, each as of its own
-- moments.
use Rattle.std.specs.Prelude.{◌≡◌, ℕ, ◌+◌, ◌≤◌, true, List, Option, Some, None, IfSome, MatchOption, is_some, option_map}
use Rattle.s4_types.specs.Pointer.{Place}
use Rattle.s4_types.specs.declared.limits.TheConstants.{CHAIN_ENTRY_BYTES}
use Rattle.block_log.specs.Log.{Stored}
use Rattle.checkpoint.specs.Held.{checkpoint_blocks}
use Rattle.codec.specs.declared.inodes.Inode.{Inode}
use Rattle.codec.specs.Entry.{EntryFields, entries_length}
use Rattle.codec.specs.Checkpoint.{CheckpointFields, checkpoint_rules}
use Rattle.undo_redo.specs.Runs.{Run, redone_all, inode_after}
use Rattle.undo_redo.specs.Groups.{grouped}
use Rattle.object_map.specs.declared.map.Row.{Row}
use Rattle.journal_chain.specs.Push.{whole_blocks}
use Rattle.time_read.specs.Rows.{inode_before, checkpoint_of, entries_of}

-- how many blocks a checkpoint of an inode takes, where there is an inode
abbrev pub kept_blocks : Option Inode → ℕ
kept_blocks None = 0
kept_blocks (Some i) = checkpoint_blocks i

-- how many blocks a checkpoint of an inode, if there is one, and a whole chain of these entries are
abbrev pub moved_blocks : Option Inode → List EntryFields → ℕ
moved_blocks kept entries = kept_blocks kept + whole_blocks entries

-- the inode in the checkpoint of an object's row, if it has one
abbrev pub inode_kept : (Place → Option Stored) → ℕ → Row → Option Inode
inode_kept held o row = option_map (λ c. c.inode) (checkpoint_of held o row)

-- how many blocks the checkpoint of an object's row, if it has one, and its whole chain are
abbrev pub row_blocks : (Place → Option Stored) → ℕ → Row → ℕ
row_blocks held o row = moved_blocks (inode_kept held o row) (entries_of held o row)

-- the checkpoint of an object's inode at a moment
abbrev pub checkpoint_made : ℕ → ℕ → Inode → CheckpointFields
checkpoint_made o moment i = record { object = o; moment = moment; inode = i }

-- the same, where there is an inode
abbrev pub checkpoint_kept : ℕ → ℕ → Option Inode → Option CheckpointFields
checkpoint_kept o moment kept = option_map (checkpoint_made o moment) kept

-- the inode before these entries of an object made at this moment, where this one is kept in a checkpoint of a moment, or
-- none is
abbrev pub first_kept : ℕ → ℕ → ℕ → Option Inode → List EntryFields → Inode
first_kept o created moment kept entries = inode_before created moment entries (checkpoint_kept o moment kept)

-- A row of an object made at this moment can tell these entries, with this inode in a checkpoint of a moment, or with none
-- and moment 0. The inode is the one that the entries show at that moment. The entries are a run in groups, and aren't too
-- long; the inode before them was made when the row tells.
pub record CanWrite (o making moment : ℕ) (kept : Option Inode) (entries : List EntryFields) : Type 0 where
  pub rules : MatchOption kept (moment ≡ 0) (λ i. checkpoint_rules (checkpoint_made o moment i) ≡ true)
  pub current : IfSome kept (λ i. i ≡ inode_after (first_kept o making moment kept entries) entries moment)
  pub run : Run (first_kept o making moment kept entries) entries (redone_all entries (first_kept o making moment kept entries))
  pub groups : grouped entries ≡ true
  pub bytes : entries_length entries ≤ CHAIN_ENTRY_BYTES
  pub created : (first_kept o making moment kept entries).created ≡ making

-- the checkpoint of an inode at the moment of an object's checkpoint
abbrev pub checkpoint_at : ℕ → Row → Inode → CheckpointFields
checkpoint_at o row = checkpoint_made o row.checkpoint_moment

-- the same, where there is an inode
abbrev pub checkpoint_with : ℕ → Row → Option Inode → Option CheckpointFields
checkpoint_with o row = checkpoint_kept o row.checkpoint_moment

-- the inode before these entries, where this one is kept in the checkpoint, or none is
abbrev pub first_with : ℕ → Row → Option Inode → List EntryFields → Inode
first_with o row = first_kept o row.created row.checkpoint_moment

-- An object's row can tell these entries, with this inode in its checkpoint, or none. There is one exactly where the row has
-- a checkpoint, and it is the one that the entries show at the checkpoint's moment. The entries are a run in groups, and
-- aren't too long; the object was made when the row tells.
pub record CanTell (o : ℕ) (row : Row) (kept : Option Inode) (entries : List EntryFields) : Type 0 where
  pub same : is_some kept ≡ is_some row.checkpoint
  pub rules : IfSome kept (λ i. checkpoint_rules (checkpoint_at o row i) ≡ true)
  pub current : IfSome kept (λ i. i ≡ inode_after (first_with o row kept entries) entries row.checkpoint_moment)
  pub run : Run (first_with o row kept entries) entries (redone_all entries (first_with o row kept entries))
  pub groups : grouped entries ≡ true
  pub bytes : entries_length entries ≤ CHAIN_ENTRY_BYTES
  pub created : (first_with o row kept entries).created ≡ row.created
