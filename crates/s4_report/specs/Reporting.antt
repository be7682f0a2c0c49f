-- What `report` prints.
use Rattle.std.specs.Prelude.{◌≡◌, ℕ, List, Option}
use Rattle.drive.specs.Fields.{DriveFields, state_in, store_of}
use Rattle.s4_command.specs.declared.changes.ReportAsked.{ReportAsked}
use Rattle.s4_images.specs.declared.commands.Verdict.{Verdict}
use Rattle.s4_images.specs.declared.commands.Verdict.TheVariants.{Fine}
use Rattle.s4_images.specs.Moments.{moment_given}
use Rattle.history_report.specs.Report.{Reports}

-- The page about a drive was written, with what differs since the moment that is asked for. The verdict says so.
abbrev pub ReportsDrive : DriveFields → ReportAsked → Verdict → (output output' : Option (List ℕ)) → Type 0
ReportsDrive d report verdict output output' = (verdict ≡ Fine) × Reports (state_in d) (store_of d) (moment_given (state_in d) report.since) output output'
