-- The rows that checkpoints and journal blocks make of objects that no row names.
use Rattle.std.specs.Prelude.{◌≡◌, ◌⊎◌, ℕ, ◌+◌, ◌-◌, List, [], ◌∷◌, Option, Some, None}
use Rattle.s4_types.specs.Pointer.{Place}
use Rattle.s4_types.specs.declared.limits.TheConstants.{OBJECT_BLOCKS}
use Rattle.block_log.specs.Log.{Stored}
use Rattle.codec.specs.declared.entries.Triple.{Triple}
use Rattle.codec.specs.Checkpoint.{CheckpointFields}
use Rattle.codec.specs.Entry.{EntryFields}
use Rattle.codec.specs.Journal.{JournalFields}
use Rattle.journal_chain.specs.Chain.{journal_held}
use Rattle.checkpoint.specs.Held.{checkpoint_held}
use Rattle.image_objects.specs.declared.rows.ImageRow.{ImageRow}
use Rattle.image_objects.specs.VersionChain.{VersionChainStands, present_used}
use Rattle.image_salvage.specs.declared.newest.Note.{Note}
use Rattle.image_salvage.specs.Contents.{blocks_gone}
use Rattle.image_salvage.specs.Newest.{order_of}
use Rattle.image_salvage.specs.Rows.{last_moment}

-- ---- checkpoints

-- the row of an object that a checkpoint at a place makes, without a journal
abbrev pub checkpoint_row : ℕ → Place → CheckpointFields → ImageRow
checkpoint_row o p c = record { object = o; created = c.inode.created; checkpoint = Some p; checkpoint_moment = c.moment; head = None }

-- That row, with what puts it before others: the moment, and how few blocks of the inode are gone. A checkpoint comes after all entries of its
-- moment.
abbrev pub checkpoint_note : (Place → Option Stored) → ℕ → Place → CheckpointFields → Note
checkpoint_note used o p c = record { row = checkpoint_row o p c; moment = c.moment; step = OBJECT_BLOCKS + 1; kept = OBJECT_BLOCKS - blocks_gone used o c.inode; order = order_of p }

-- The used block at a place is a checkpoint, and makes this row.
pub record MakesByCheckpoint (used : Place → Option Stored) (p : Place) (note : Note) : Type 0 where
  pub block : Stored
  pub held : used p ≡ Some block
  pub found : CheckpointFields
  pub decodes : checkpoint_held used block.object p ≡ Some found
  pub is : note ≡ checkpoint_note used block.object p found

-- ---- journal blocks

-- The rows of an object whose newest journal block is at a place: one with the checkpoint of another row, and one with none. When the object
-- was made isn't known of the latter.
abbrev pub row_from : ImageRow → Place → ImageRow
row_from row p = record { object = row.object; created = row.created; checkpoint = row.checkpoint; checkpoint_moment = row.checkpoint_moment; head = Some p }

abbrev pub row_alone : ℕ → Place → ImageRow
row_alone o p = record { object = o; created = 0; checkpoint = None; checkpoint_moment = 0; head = Some p }

-- a row gives an inode over these used blocks: its journal is there, back to its checkpoint or to the making of its object
abbrev pub LeadsOn : (Place → Option Stored) → ImageRow → Type 0
LeadsOn used row = VersionChainStands used row last_moment

-- one more than how many blocks of that inode aren't gone
abbrev pub blocks_kept : (Place → Option Stored) → ImageRow → ℕ
blocks_kept used row = 1 + (OBJECT_BLOCKS - blocks_gone used row.object (present_used used row))

-- the same where the row gives an inode, and else 0
abbrev pub CountsKept : (Place → Option Stored) → ImageRow → ℕ → Type 0
CountsKept used row kept = (LeadsOn used row × (kept ≡ blocks_kept used row)) ⊎ ((LeadsOn used row → ⊥) × (kept ≡ 0))

-- The row that a journal block makes: with the object's newest checkpoint where that row gives an inode, and else with none.
abbrev pub MakesRow : (Place → Option Stored) → Option Note → ℕ → Place → ImageRow → ℕ → Type 0
MakesRow used None o p row kept = (row ≡ row_alone o p) × CountsKept used row kept
MakesRow used (Some checkpoint) o p row kept =
    ((row ≡ row_from checkpoint.row p) × LeadsOn used row × (kept ≡ blocks_kept used row))
    ⊎ ((LeadsOn used (row_from checkpoint.row p) → ⊥) × (row ≡ row_alone o p) × CountsKept used row kept)

-- how far an entry is in its change: one more than the first index of its pointers, 0 where it has none
abbrev pub step_by : List Triple → ℕ
step_by [] = 0
step_by (t ∷ triples) = t.index + 1

-- a row with what puts it before others: the newest entry of its block, and how few blocks of its inode are gone
abbrev pub head_note : Place → EntryFields → ImageRow → ℕ → Note
head_note p entry row kept = record { row = row; moment = entry.moment; step = step_by entry.triples; kept = kept; order = order_of p }

-- the last of entries
abbrev pub last_of : List EntryFields → Option EntryFields
last_of [] = None
last_of (e ∷ []) = Some e
last_of (e ∷ f ∷ entries) = last_of (f ∷ entries)

-- The used block at a place is a journal block, and makes this row, by the newest checkpoints of objects.
pub record MakesByJournal (used : Place → Option Stored) (checkpoints : ℕ → Option Note) (p : Place) (note : Note) : Type 0 where
  pub block : Stored
  pub held : used p ≡ Some block
  pub found : JournalFields
  pub decodes : journal_held used block.object p ≡ Some found
  pub newest : EntryFields
  pub last : last_of found.entries ≡ Some newest
  pub row : ImageRow
  pub kept : ℕ
  pub makes : MakesRow used (checkpoints block.object) block.object p row kept
  pub is : note ≡ head_note p newest row kept

-- ---- both

-- the used block at a place is either, and makes this row
abbrev pub MakesHead : (Place → Option Stored) → (ℕ → Option Note) → Place → Note → Type 0
MakesHead used checkpoints p note = MakesByCheckpoint used p note ⊎ MakesByJournal used checkpoints p note
