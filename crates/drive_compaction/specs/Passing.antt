-- What a full pass over a drive comes to.
use Rattle.std.specs.Prelude.{ℕ, ◌≤◌, ◌<◌, IsSome}
use Rattle.s4_types.specs.declared.refusals.Refusal.TheVariants.{NoRoom}
use Rattle.s4_model.specs.Promise.{IsCleanedUp}
use Rattle.block_log.specs.declared.kinds.BlockKind.TheVariants.{Data}
use Rattle.block_log.specs.Log.{of_kind}
use Rattle.version_store.specs.Costs.{room}
use Rattle.version_store.specs.Versions.{version_in}
use Rattle.drive.specs.Fields.{DriveFields, history_of, state_in, store_of}
use Rattle.history_cleaner.specs.Emptying.{AllVacated}
use Rattle.history_cleaner.specs.Passing.{IsCleaned, StoppedAt}
use Rattle.history_cleaner.specs.Reaching.{PointsTo}
use Rattle.segment_copier.specs.Gathering.{free_count}
use Rattle.drive_compaction.specs.declared.compacting.Compaction.{Compaction}
use Rattle.drive_compaction.specs.declared.passing.FullPass.{FullPass}
use Rattle.drive_compaction.specs.declared.passing.FullPass.TheVariants.{Made, CostsRoom, Refused}
use Rattle.drive_compaction.specs.Compacting.{blocks_left}

-- In the words of the model: the history is as it was, each object has its version at each moment that can be read, and of each exactly
-- those data blocks are held that one of these versions reaches.
abbrev pub HoldsWhatIsRead : DriveFields → DriveFields → Type 0
HoldsWhatIsRead d later =
    IsCleanedUp (history_of d) (history_of later) (version_in (store_of later)) (λ o p. IsSome (of_kind Data o (store_of later).log.held p)) (PointsTo (store_of later))

-- A full pass came to its end: all objects were cleaned, and each frame that holds nothing was freed.
pub record IsPassed (d later : DriveFields) : Type 0 where
  pub cleaned : (o : ℕ) → IsCleaned (store_of d) (store_of later) (state_in d) o
  pub holds : HoldsWhatIsRead d later
  pub vacated : AllVacated later.store.table

-- It did, and no fewer blocks are left than before, those of the reserve among them.
pub record PassesFreely (d later : DriveFields) : Type 0 where
  pub passed : IsPassed d later
  pub no_fewer : blocks_left (store_of d) ≤ blocks_left (store_of later)
  pub more : room (store_of d) ≤ room (store_of later)

-- It did, and fewer are left.
pub record PassesAtACost (d later : DriveFields) : Type 0 where
  pub passed : IsPassed d later
  pub fewer : blocks_left (store_of later) < blocks_left (store_of d)

-- What a full pass comes to, by how it ended. Where it was refused it had stopped at an object for too little room.
abbrev pub PassesOver : FullPass → DriveFields → DriveFields → Type 0
PassesOver Made d later = PassesFreely d later
PassesOver CostsRoom d later = PassesAtACost d later
PassesOver Refused d later = StoppedAt (store_of d) (store_of later) (state_in d) NoRoom

-- what a compaction came to, with what is left in a drive in place of what its turns left
abbrev pub as_left : Compaction → DriveFields → Compaction
as_left c d = record c {
  free_after = free_count d.store.table;
  room_after = room (store_of d);
  left_after = blocks_left (store_of d);
}
