-- What the pass of the cleaner comes to, also where it is cut short.
use Rattle.std.specs.Prelude.{◌≡◌, ℕ, Bool, true, false, Option, None, Some}
use Rattle.s4_types.specs.declared.refusals.Refusal.TheVariants.{NoRoom}
use Rattle.version_store.specs.Upkeep.{KeepsObjects}
use Rattle.drive.specs.Fields.{DriveFields, state_in, store_of}
use Rattle.history_cleaner.specs.Emptying.{AllVacated, frames_risen}
use Rattle.history_cleaner.specs.Passing.{has_other_row, has_lost_row, IsCount, IsCleaned, StoppedAt}
use Rattle.history_cleaner.specs.declared.passes.PassReport.{PassReport}

-- all objects were cleaned, and then each frame that holds nothing was freed; the report has what changed
pub record HasPassed (d : DriveFields) (report : PassReport) (later : DriveFields) : Type 0 where
  pub cleaned : (o : ℕ) → IsCleaned (store_of d) (store_of later) (state_in d) o
  pub vacated : AllVacated later.store.table
  pub rewritten : IsCount (has_other_row d.store.rows later.store.rows) report.rewritten
  pub removed : IsCount (has_lost_row d.store.rows later.store.rows) report.removed
  pub released : report.released ≡ frames_risen d.store.table.seat later.store.table.seat

-- The pass stopped at an object for too little room, and then each frame that holds nothing was freed.
pub record IsCutShort (d later : DriveFields) : Type 0 where
  pub between : DriveFields
  pub stopped : StoppedAt (store_of d) (store_of between) (state_in d) NoRoom
  pub vacated : AllVacated later.store.table
  pub objects : KeepsObjects (store_of between) (store_of later)

-- Each frame that holds nothing was freed, and all objects stay as they are.
pub record IsVacatedAlone (d later : DriveFields) : Type 0 where
  pub vacated : AllVacated later.store.table
  pub objects : KeepsObjects (store_of d) (store_of later)

-- What the pass comes to, by whether there is one and by its report; none where it was cut short.
abbrev pub Passes : Bool → DriveFields → Option PassReport → DriveFields → Type 0
Passes true d None later = IsCutShort d later
Passes true d (Some report) later = HasPassed d report later
Passes false d report later = (report ≡ None) × IsVacatedAlone d later
