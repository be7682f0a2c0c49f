-- When the whole version chain of a row is in an image: the chain, the checkpoint, and the inodes that the entries lead through.
use Rattle.std.specs.Prelude.{ℕ, if◌then◌else◌, List, [], Option, None}
use Rattle.s4_types.specs.Pointer.{Place}
use Rattle.block_log.specs.Log.{Stored}
use Rattle.checkpoint.specs.Held.{of_checkpoints, is_one_of}
use Rattle.codec.specs.declared.inodes.Inode.{Inode}
use Rattle.codec.specs.Entry.{entries_length}
use Rattle.journal_chain.specs.Packing.{packed, filled_bytes}
use Rattle.journal_chain.specs.Chain.{BlockView}
use Rattle.object_map.specs.declared.map.Row.{Row}
use Rattle.undo_redo.specs.Runs.{Run, redone_all}
use Rattle.time_read.specs.Orderly.{IsOrderlyChain}
use Rattle.image_objects.specs.declared.rows.ImageRow.{ImageRow}
use Rattle.image_objects.specs.Chains.{ChainStands, entries_used}
use Rattle.image_objects.specs.Inodes.{BeginningStands, first_used, checkpoint_places_used}

-- the inode after all entries of a row's chain: the present one
abbrev pub present_used : (Place → Option Stored) → ImageRow → Inode
present_used used row = redone_all (entries_used used row) (first_used used row)

-- A row's version chain is in an image up to its clock. The chain is by itself. The row's checkpoint stands, or the entries
-- tell the making. Each entry leads on from the inode that the entry before it refers to. Of these inodes one is live, a dead
-- one is the first or the last, the first is blank where it is dead, and the last change of each live one is from the making
-- to the clock.
pub record VersionChainStands (used : Place → Option Stored) (row : ImageRow) (clock : ℕ) : Type 0 where
  pub chain : ChainStands used row clock
  pub beginning : BeginningStands used row clock (entries_used used row)
  pub run : Run (first_used used row) (entries_used used row) (present_used used row)
  pub order : IsOrderlyChain row.created clock (first_used used row) (entries_used used row)

-- a view at some places alone
abbrev pub named_at : List Place → BlockView → Place → Option (List ℕ)
named_at places view p = if is_one_of places p then view p else None

-- of the used blocks of an object's checkpoints, those alone of the checkpoint that a row names
abbrev pub checkpoint_view : (Place → Option Stored) → ImageRow → BlockView
checkpoint_view used row = λ p. named_at (checkpoint_places_used used row) (of_checkpoints row.object used) p

-- the row that a drive keeps of a row of an image, with this stamp: it names no older checkpoints
abbrev pub kept_row : (Place → Option Stored) → ImageRow → ℕ → Row
kept_row used row stamp = record {
  created = row.created;
  checkpoint = row.checkpoint;
  checkpoint_moment = row.checkpoint_moment;
  head = row.head;
  journal_bytes = entries_length (entries_used used row);
  head_bytes = filled_bytes (packed (entries_used used row));
  sides = [];
  stamp = stamp;
}
