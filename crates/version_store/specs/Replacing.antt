-- What a store is once an object's row was removed, or its journal was replaced.
use Rattle.std.specs.Prelude.{◌≡◌, ℕ, ◌+◌, ◌<◌, ◌≤◌, ◌==◌, ◌&&◌, ◌++◌, true, false, List, [], length, Option, Some, IsSome}
use Rattle.std.specs.List.{Contains}
use Rattle.s4_types.specs.Pointer.{Place}
use Rattle.s4_types.specs.declared.limits.TheConstants.{CHAIN_ENTRY_BYTES}
use Rattle.block_log.specs.declared.kinds.BlockKind.{BlockKind}
use Rattle.block_log.specs.declared.kinds.BlockKind.TheVariants.{Data}
use Rattle.block_log.specs.Log.{Stored, of_kind, same_kind}
use Rattle.block_log.specs.Taken.{TakesPlaces}
use Rattle.codec.specs.declared.inodes.Inode.{Inode}
use Rattle.codec.specs.Entry.{EntryFields, entries_length}
use Rattle.undo_redo.specs.Runs.{Run, AllBy, undone_all, inode_after, entries_past}
use Rattle.undo_redo.specs.Groups.{grouped}
use Rattle.object_map.specs.declared.map.Row.{Row}
use Rattle.object_map.specs.Rows.{row_of, with_row, without_row}
use Rattle.time_read.specs.Rows.{entries_of, inode_of}
use Rattle.time_read.specs.Orderly.{IsOrderlyChain}
use Rattle.inode.specs.Contents.{contents_of}
use Rattle.inode.specs.Tidiness.{Tidy}
use Rattle.row_changes.specs.Rewritten.{rewritten_blocks}
use Rattle.version_store.specs.Store.{StoreFields, IsStore, HasNothing, sides_told, pointers_of}
use Rattle.version_store.specs.Checkpointing.{last_entry}

-- of all views, that of the object's data alone has changed
abbrev pub OnlyDataChanged : ℕ → (Place → Option Stored) → (Place → Option Stored) → Type 0
OnlyDataChanged o held later = (kind : BlockKind) (other : ℕ) → (same_kind Data kind && o == other) ≡ false → of_kind kind other later ≡ of_kind kind other held

-- the blocks of all objects but one are as they were
abbrev pub OtherObjectsStay : ℕ → (Place → Option Stored) → (Place → Option Stored) → Type 0
OtherObjectsStay o held later = (kind : BlockKind) (other : ℕ) → (o == other) ≡ false → of_kind kind other later ≡ of_kind kind other held

-- An object has no row and no block any more. All other rows and blocks are as they were, no place was taken, and the last
-- change is the same.
pub record IsRemoved (s : StoreFields) (o : ℕ) (later : StoreFields) : Type 0 where
  pub rows : (q : ℕ) → row_of later.rows q ≡ without_row (row_of s.rows) o q
  pub nothing : HasNothing later.log.held o
  pub others : OtherObjectsStay o s.log.held later.log.held
  pub takes : TakesPlaces 0 s.log later.log
  pub latest : later.latest ≡ s.latest

-- the inode at a moment of an object with this present inode, to which these entries lead
abbrev pub inode_led : Inode → List EntryFields → ℕ → Inode
inode_led present entries t = inode_after (undone_all entries present) entries t

-- all pointers of an inode, and after them both sides of each triple of entries, the oldest entry first
abbrev pub pointers_told : Inode → List EntryFields → List (Option Place)
pointers_told present entries = present.pointers ++ sides_told entries

-- an entry of these is of this moment
abbrev pub IsMomentOf : List EntryFields → ℕ → Type 0
IsMomentOf entries m = (e : EntryFields) × (Contains entries e × (e.moment ≡ m))

-- The journal of an object of this row can be replaced by these entries, which lead to this present inode. There is a
-- journal; the entries are a run in groups, each is of a moment of one that stands, and they aren't too long. They are in order, of
-- an object made when the row tells. Each inode that they refer to is tidy, and what the present one and they point to the row
-- led to.
pub record CanReplace (s : StoreFields) (o : ℕ) (row : Row) (present : Inode) (entries : List EntryFields) : Type 0 where
  pub journal : 0 < length (entries_of s.log.held o row)
  pub run : Run (undone_all entries present) entries present
  pub groups : grouped entries ≡ true
  pub by : AllBy (last_entry s.log.held o row) entries
  pub moments : (e : EntryFields) → Contains entries e → IsMomentOf (entries_of s.log.held o row) e.moment
  pub bytes : entries_length entries ≤ CHAIN_ENTRY_BYTES
  pub made : present.created ≡ row.created
  pub order : IsOrderlyChain row.created s.latest (undone_all entries present) entries
  pub tidy : (t : ℕ) → Tidy (contents_of s.log.held) (inode_led present entries t)
  pub pointers : (p : Place) → Contains (pointers_told present entries) (Some p) → Contains (pointers_of s.log.held o row) (Some p)

-- The journal of an object of this row was replaced by these entries, and its present inode is this one. A checkpoint was
-- written, with the moment of the entry that was the last before; no older one is left. The row was changed once more. Of its
-- data the blocks that these point to are as they were, and no other is held. All other rows and blocks are as they were, so
-- many places were taken, and the last change is the same.
pub record IsReplaced (s : StoreFields) (o : ℕ) (row : Row) (present : Inode) (entries : List EntryFields) (later : StoreFields) : Type 0 where
  pub next : Row
  pub rest : next ≡ record row {
    checkpoint = next.checkpoint;
    checkpoint_moment = last_entry s.log.held o row;
    head = next.head;
    journal_bytes = next.journal_bytes;
    head_bytes = next.head_bytes;
    sides = [];
    stamp = row.stamp + 1;
  }
  pub put : (q : ℕ) → row_of later.rows q ≡ with_row (row_of s.rows) o next q
  pub journal : entries_of later.log.held o next ≡ entries
  pub pointers : pointers_of later.log.held o next ≡ pointers_told present entries
  pub kept : (p : Place) → Contains (pointers_told present entries) (Some p) → of_kind Data o later.log.held p ≡ of_kind Data o s.log.held p
  pub named : (p : Place) → IsSome (of_kind Data o later.log.held p) → Contains (pointers_told present entries) (Some p)
  pub others : OtherObjectsStay o s.log.held later.log.held
  pub takes : TakesPlaces (rewritten_blocks present entries) s.log later.log
  pub latest : later.latest ≡ s.latest

-- An object's journal can be replaced by its own entries that are later than a moment, where there are some; its present inode
-- stays.
abbrev pub AJournalCanBeCut : Type 0
AJournalCanBeCut = (s : StoreFields) (o t : ℕ) (row : Row) → IsStore s → row_of s.rows o ≡ Some row → 0 < length (entries_past t (entries_of s.log.held o row))
    → CanReplace s o row (inode_of s.log.held o row s.latest) (entries_past t (entries_of s.log.held o row))

-- From that moment on they refer to the inodes that the object has.
abbrev pub ACutJournalShowsTheSame : Type 0
ACutJournalShowsTheSame = (s : StoreFields) (o t at : ℕ) (row : Row) → IsStore s → row_of s.rows o ≡ Some row → t ≤ at
    → inode_led (inode_of s.log.held o row s.latest) (entries_past t (entries_of s.log.held o row)) at ≡ inode_of s.log.held o row at
