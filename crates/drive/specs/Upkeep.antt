-- What a step of upkeep is answered, and what it leaves of the drive: the history stays, and so do every version and the rows of the audit.
use Rattle.std.specs.Prelude.{◌≡◌, ◌≢◌, ℕ, None, Some, IfSome, Result, OnOk, OnErr, MatchResult}
use Rattle.s4_types.specs.declared.refusals.Refusal.{Refusal}
use Rattle.undo_redo.specs.Runs.{AllBy}
use Rattle.segment_word.specs.Frames.{Draining}
use Rattle.segment_word.specs.Layout.{frame_at}
use Rattle.segment_table.specs.Changes.{SealsFrame, MarksFrame, ReleasesFrame}
use Rattle.object_map.specs.Rows.{row_of}
use Rattle.time_read.specs.Rows.{entries_of}
use Rattle.version_store.specs.Checkpointing.{checkpoint_refusal, Checkpoints}
use Rattle.version_store.specs.Versions.{inode_in, version_in}
use Rattle.version_store.specs.Upkeep.{KeepsObjects}
use Rattle.drive.specs.Fields.{DriveFields, store_of}

-- The open frame is sealed, if there is one.
pub record Seals (d later : DriveFields) : Type 0 where
  pub frame : SealsFrame d.store.table later.store.table
  pub objects : KeepsObjects (store_of d) (store_of later)
  pub ledger : later.ledger ≡ d.ledger
  pub audit : later.audit ≡ d.audit

-- An object's checkpoint is as new as its last entry: it is written where it has to be. NoObject exactly where the object has no
-- row; else NoSpace exactly where a block has to be written and there is no room for it.
pub record WritesCheckpoint (object : ℕ) (d : DriveFields) (done : Result (Unit {0}) Refusal) (later : DriveFields) : Type 0 where
  pub checkpoint : OnOk done (Checkpoints (store_of d) object (store_of later))
  pub current : OnOk done (IfSome (row_of later.store.rows object) (λ row. AllBy row.checkpoint_moment (entries_of (store_of later).log.held object row)))
  pub answer : MatchResult done (λ _. checkpoint_refusal (store_of d) object ≡ None) (λ e. checkpoint_refusal (store_of d) object ≡ Some e)
  pub unchanged : OnErr done (store_of later ≡ store_of d)
  pub ledger : later.ledger ≡ d.ledger
  pub audit : later.audit ≡ d.audit
  pub versions : (o t : ℕ) → version_in (store_of later) o t ≡ version_in (store_of d) o t
  pub inodes : (o t : ℕ) → inode_in (store_of later) o t ≡ inode_in (store_of d) o t

-- A frame is being emptied from now on, or that is refused, and nothing has changed.
pub record Marks (f : ℕ) (d : DriveFields) (done : Result (Unit {0}) Refusal) (later : DriveFields) : Type 0 where
  pub frame : MarksFrame f d.store.table done later.store.table
  pub refused : OnErr done (later ≡ d)
  pub store : store_of later ≡ store_of d
  pub ledger : later.ledger ≡ d.ledger
  pub audit : later.audit ≡ d.audit

-- A frame that was being emptied and had no reader is free at its next generation, or that is refused. Nothing has changed where
-- the frame isn't being emptied, and no object where it had a reader.
pub record Releases (f : ℕ) (d : DriveFields) (done : Result (Unit {0}) Refusal) (later : DriveFields) : Type 0 where
  pub frame : ReleasesFrame f d.store.table done later.store.table
  pub idle : OnErr done ((frame_at d.store.table.seat.frames f).phase ≢ Draining → later ≡ d)
  pub unchanged : OnErr done (store_of later ≡ store_of d)
  pub objects : KeepsObjects (store_of d) (store_of later)
  pub ledger : later.ledger ≡ d.ledger
  pub audit : later.audit ≡ d.audit
