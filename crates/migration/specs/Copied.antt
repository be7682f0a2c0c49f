-- An object of an image that is copied into a log: what is asked of it, and what the log holds of it then.
use Rattle.std.specs.Prelude.{◌≡◌, ℕ, ◌+◌, ◌==◌, false, true, List, ◌++◌, length, reverse, Option, is_some, option_map, MatchOption}
use Rattle.std.specs.List.{All}
use Rattle.s4_types.specs.Pointer.{Place}
use Rattle.block_log.specs.declared.kinds.BlockKind.{BlockKind}
use Rattle.block_log.specs.declared.kinds.BlockKind.TheVariants.{Journal, Data}
use Rattle.block_log.specs.Log.{Log, Stored, of_kind}
use Rattle.block_log.specs.Taken.{TakesPlaces}
use Rattle.codec.specs.declared.inodes.Inode.{Inode}
use Rattle.codec.specs.Entry.{EntryFields, entries_length}
use Rattle.undo_redo.specs.Runs.{inode_after}
use Rattle.journal_chain.specs.Chain.{chain_places}
use Rattle.object_map.specs.declared.map.Row.{Row}
use Rattle.object_map.specs.Rows.{fresh_row}
use Rattle.inode.specs.Contents.{contents_of, meaning}
use Rattle.inode.specs.Tidiness.{Tidy}
use Rattle.time_read.specs.Rows.{IsRow, entries_of, checkpoint_of, inode_of, checkpoint_places_of}
use Rattle.time_read.specs.Orderly.{IsFromTo, IsOrderly, IsOrderlyChain, BeginsDead}
use Rattle.chain_rewriting.specs.Mapping.{mapped_inode, mapped_entries}
use Rattle.row_changes.specs.Moving.{CanWrite, checkpoint_kept, first_kept, moved_blocks}
use Rattle.version_store.specs.Store.{IsLed, IsObject, DataIsNamed}
use Rattle.image_objects.specs.declared.rows.ImageRow.{ImageRow}
use Rattle.image_objects.specs.Saved.{HoldsUsed}
use Rattle.migration.specs.declared.moves.Move.{Move}
use Rattle.migration.specs.Places.{data_pointers, data_places}
use Rattle.migration.specs.Moves.{moved_by, is_moved, moves_to, new_places}

-- the inode before these entries of a row with this inode in its checkpoint, if it has one
abbrev pub first_inode : ImageRow → Option Inode → List EntryFields → Inode
first_inode row kept entries = first_kept row.object row.created row.checkpoint_moment kept entries

-- the inode of such a row that is current at a moment
abbrev pub inode_at : ImageRow → Option Inode → List EntryFields → ℕ → Inode
inode_at row kept entries t = inode_after (first_inode row kept entries) entries t

-- A row's object can be copied, with this inode in its checkpoint, if it has one, and these entries. A row of a drive can have them; each
-- of their pointers is a hole or refers to a used data block of the object; and at each moment the inode is tidy.
pub record CanCopy (used : Place → Option Stored) (row : ImageRow) (kept : Option Inode) (entries : List EntryFields) : Type 0 where
  pub write : CanWrite row.object row.created row.checkpoint_moment kept entries
  pub led : All (IsLed used row.object) (data_pointers kept entries)
  pub tidy : (t : ℕ) → Tidy (contents_of used) (inode_at row kept entries t)

-- They are in order up to a latest moment.
pub record IsInOrder (row : ImageRow) (kept : Option Inode) (entries : List EntryFields) (latest : ℕ) : Type 0 where
  pub made : IsFromTo 1 latest row.created
  pub chain : IsOrderlyChain row.created latest (first_inode row kept entries) entries
  pub beginning : MatchOption kept (BeginsDead entries) (λ i. IsFromTo row.created latest row.checkpoint_moment)

-- where the data of a row's object goes: block by block, in order, to the places ahead
abbrev pub data_moves : Option Inode → List EntryFields → Log → List Move
data_moves kept entries before = moves_to (data_places kept entries) before.ahead

-- the inode in a checkpoint, if there is one, once its blocks went there
abbrev pub kept_then : List Move → Option Inode → Option Inode
kept_then moves kept = option_map (mapped_inode (moved_by moves)) kept

-- entries once their blocks went there
abbrev pub entries_then : List Move → List EntryFields → List EntryFields
entries_then moves entries = mapped_entries (moved_by moves) entries

-- how many blocks an object has with this inode in its checkpoint, if it has one, and these entries: its data, its checkpoint
-- and its journal
abbrev pub object_blocks : Option Inode → List EntryFields → ℕ
object_blocks kept entries = length (data_places kept entries) + moved_blocks kept entries

-- A row's object was copied into a log that held nothing of it, its data by these moves, and this is its row there. Its data is
-- at the first places ahead; then come the blocks of its checkpoint, and then those of its journal, the oldest first. Nothing
-- else of it is held. Its checkpoint and its entries are the old ones but for the places of data; so at each moment it is what
-- it was. Nothing of other objects has changed, and what was held stays.
pub record CopiesBy (used : Place → Option Stored) (row : ImageRow) (kept : Option Inode) (entries : List EntryFields) (moves : List Move) (before after : Log) (later : Row) : Type 0 where
  pub is_row : IsRow after.held row.object later
  pub journal : entries_of after.held row.object later ≡ entries_then moves entries
  pub checkpoint : checkpoint_of after.held row.object later ≡ checkpoint_kept row.object row.checkpoint_moment (kept_then moves kept)
  pub inodes : (t : ℕ) → inode_of after.held row.object later t ≡ mapped_inode (moved_by moves) (inode_at row kept entries t)
  pub versions : (t : ℕ) → meaning (contents_of after.held) (inode_of after.held row.object later t) ≡ meaning (contents_of used) (inode_at row kept entries t)
  pub objects : (latest : ℕ) → IsInOrder row kept entries latest → IsObject after.held row.object later latest
  pub orderly : (latest : ℕ) → IsInOrder row kept entries latest → IsOrderly after.held row.object later latest
  pub fields : later ≡ record (fresh_row row.created) {
    checkpoint = later.checkpoint;
    checkpoint_moment = row.checkpoint_moment;
    head = later.head;
    journal_bytes = entries_length entries;
    head_bytes = later.head_bytes;
  }
  pub some : is_some later.checkpoint ≡ is_some kept
  pub named : DataIsNamed after.held row.object later
  pub copies : (p : Place) → is_moved moves p ≡ true → of_kind Data row.object after.held (moved_by moves p) ≡ of_kind Data row.object used p
  pub others : (kind : BlockKind) (other : ℕ) → (row.object == other) ≡ false → of_kind kind other after.held ≡ of_kind kind other before.held
  pub stay : HoldsUsed after.held before.held
  pub order : before.ahead
      ≡ new_places moves
      ++ (checkpoint_places_of after.held row.object later
      ++ (reverse (chain_places (of_kind Journal row.object after.held) row.object later.head) ++ after.ahead))
  pub takes : TakesPlaces (object_blocks kept entries) before after

-- The same, where the data went in the order of its old places.
abbrev pub CopiesRow : (Place → Option Stored) → ImageRow → Option Inode → List EntryFields → Log → Log → Row → Type 0
CopiesRow used row kept entries before after later = CopiesBy used row kept entries (data_moves kept entries before) before after later
