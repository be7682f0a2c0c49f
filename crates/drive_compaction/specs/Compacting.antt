-- What a compaction comes to.
use Rattle.std.specs.Prelude.{◌≡◌, ℕ, ◌≤◌, ◌<◌, Bool, length}
use Rattle.s4_types.specs.declared.refusals.Refusal.{Refusal}
use Rattle.s4_types.specs.declared.refusals.Refusal.TheVariants.{NoRoom}
use Rattle.version_store.specs.Costs.{room}
use Rattle.version_store.specs.Store.{StoreFields}
use Rattle.drive.specs.Fields.{DriveFields, store_of}
use Rattle.segment_copier.specs.Gathering.{free_count}
use Rattle.drive_compaction.specs.declared.compacting.Compaction.{Compaction}
use Rattle.drive_compaction.specs.declared.turns.Ending.{Ending}
use Rattle.drive_compaction.specs.declared.turns.Work.{Work}
use Rattle.drive_compaction.specs.Turns.{Runs}

-- how many blocks are left to be appended, those of the reserve among them
abbrev pub blocks_left : StoreFields → ℕ
blocks_left s = length s.log.ahead

-- A drive was compacted, with or without the cleaner: turns were taken, and it has no less room than before, nor fewer blocks left.
pub record IsCompacted (cleans : Bool) (d later : DriveFields) (report : Compaction) : Type 0 where
  pub free_before : report.free_before ≡ free_count d.store.table
  pub free_after : report.free_after ≡ free_count later.store.table
  pub room_before : report.room_before ≡ room (store_of d)
  pub room_after : report.room_after ≡ room (store_of later)
  pub left_before : report.left_before ≡ blocks_left (store_of d)
  pub left_after : report.left_after ≡ blocks_left (store_of later)
  pub more : room (store_of d) ≤ room (store_of later)
  pub no_fewer : blocks_left (store_of d) ≤ blocks_left (store_of later)
  pub runs : Runs cleans d report.turns report.work report.ending later

-- Turns were taken, with or without the cleaner, and fewer blocks are left than before.
pub record LosesRoom (cleans : Bool) (d later : DriveFields) (e : Refusal) : Type 0 where
  pub refusal : e ≡ NoRoom
  pub turns : ℕ
  pub work : Work
  pub ending : Ending
  pub runs : Runs cleans d turns work ending later
  pub fewer : blocks_left (store_of later) < blocks_left (store_of d)
