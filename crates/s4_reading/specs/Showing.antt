-- What each command that prints something of an image asks for, and what it prints.
use Rattle.std.specs.Prelude.{ℕ, Bool, false, List, Option}
use Rattle.drive.specs.Fields.{DriveFields}
use Rattle.s4_images.specs.declared.commands.Verdict.{Verdict}
use Rattle.s4_reading.specs.Auditing.{PrintsAudit}
use Rattle.s4_reading.specs.Comparing.{Compares}
use Rattle.s4_reading.specs.Listing.{Lists}
use Rattle.s4_reading.specs.Logging.{Logs}
use Rattle.s4_reading.specs.Reading.{Gives}
use Rattle.s4_reading.specs.Telling.{Informs}
use Rattle.s4_reading.specs.declared.showing.Showing.{Showing}
use Rattle.s4_reading.specs.declared.showing.Showing.TheVariants as command

-- the path of the image's file
abbrev pub image_of : Showing → List ℕ
image_of (command.List list) = list.now.image.now
image_of (command.Log log) = log.now.image.now
image_of (command.Audit audit) = audit.now.image.now
image_of (command.Cat cat) = cat.now.image.now
image_of (command.Info info) = info.now.image.now
image_of (command.Diff diff) = diff.now.image.now

-- whether moments are printed as numbers also where they could be dates
abbrev pub with_numbers : Showing → Bool
with_numbers (command.List list) = list.now.moments
with_numbers (command.Log log) = log.now.moments
with_numbers (command.Audit audit) = audit.now.moments
with_numbers (command.Cat cat) = false
with_numbers (command.Info info) = info.now.moments
with_numbers (command.Diff diff) = diff.now.moments

-- What a command asks for was printed of a drive, and this was found.
abbrev pub Shows : DriveFields → Showing → Verdict → (output output' : Option (List ℕ)) → Type 0
Shows d (command.List list) verdict output output' = Lists d list.now verdict output output'
Shows d (command.Log log) verdict output output' = Logs d log.now verdict output output'
Shows d (command.Audit audit) verdict output output' = PrintsAudit d audit.now verdict output output'
Shows d (command.Cat cat) verdict output output' = Gives d cat.now verdict output output'
Shows d (command.Info info) verdict output output' = Informs d info.now verdict output output'
Shows d (command.Diff diff) verdict output output' = Compares d diff.now verdict output output'
