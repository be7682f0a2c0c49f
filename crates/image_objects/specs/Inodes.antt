-- The inodes of a row in an image: the one before the first entry, and when the checkpoint has its place among them.
use Rattle.std.specs.Prelude.{◌≡◌, ℕ, List, Option, Some, MatchOption}
use Rattle.s4_types.specs.Pointer.{Place}
use Rattle.block_log.specs.Log.{Stored}
use Rattle.codec.specs.Fields.{◌>>=◌}
use Rattle.codec.specs.declared.inodes.Inode.{Inode}
use Rattle.codec.specs.Entry.{EntryFields}
use Rattle.codec.specs.Checkpoint.{CheckpointFields}
use Rattle.undo_redo.specs.Runs.{undone_all, entries_by, inode_after}
use Rattle.checkpoint.specs.Held.{checkpoint_held, of_checkpoints, places_named}
use Rattle.time_read.specs.Rows.{inode_before}
use Rattle.time_read.specs.Orderly.{IsFromTo, BeginsDead}
use Rattle.image_objects.specs.declared.rows.ImageRow.{ImageRow}
use Rattle.image_objects.specs.Chains.{entries_used}

-- the checkpoint that a row names: none where it names none, or where none of the object is used there
abbrev pub checkpoint_used : (Place → Option Stored) → ImageRow → Option CheckpointFields
checkpoint_used used row = row.checkpoint >>= checkpoint_held used row.object

-- the places of the blocks of the checkpoint that a row names
abbrev pub checkpoint_places_used : (Place → Option Stored) → ImageRow → List Place
checkpoint_places_used used row = places_named (of_checkpoints row.object used) row.checkpoint

-- the inode before the first of these entries of a row
abbrev pub first_before : (Place → Option Stored) → ImageRow → List EntryFields → Inode
first_before used row entries = inode_before row.created row.checkpoint_moment entries (checkpoint_used used row)

-- the inode before the first entry of a row's chain
abbrev pub first_used : (Place → Option Stored) → ImageRow → Inode
first_used used row = first_before used row (entries_used used row)

-- A checkpoint tells the object, its making and the moment that the row tells; that moment is from the making to the clock.
pub record TellsTheRow (row : ImageRow) (clock : ℕ) (c : CheckpointFields) : Type 0 where
  pub object : c.object ≡ row.object
  pub moment : c.moment ≡ row.checkpoint_moment
  pub within : IsFromTo row.created clock row.checkpoint_moment
  pub created : c.inode.created ≡ row.created

-- It has its place among the inodes of these entries: it is the inode after all of them up to its moment.
abbrev pub HasItsPlace : ℕ → List EntryFields → Inode → Type 0
HasItsPlace moment entries inode = inode_after (undone_all (entries_by moment entries) inode) entries moment ≡ inode

-- A row's checkpoint is beside the row's entries: a checkpoint of the object is used at the place, it tells what the row
-- tells, and has its place.
pub record CheckpointStands (used : Place → Option Stored) (row : ImageRow) (clock : ℕ) (entries : List EntryFields) (p : Place) : Type 0 where
  pub found : CheckpointFields
  pub decodes : checkpoint_held used row.object p ≡ Some found
  pub tells : TellsTheRow row clock found
  pub place : HasItsPlace row.checkpoint_moment entries found.inode

-- A row's beginning stands: its checkpoint does; where it names none, its checkpoint moment is 0, and the entries tell the
-- making.
abbrev pub BeginningStands : (Place → Option Stored) → ImageRow → ℕ → List EntryFields → Type 0
BeginningStands used row clock entries =
    MatchOption row.checkpoint ((row.checkpoint_moment ≡ 0) × BeginsDead entries) (λ p. CheckpointStands used row clock entries p)
