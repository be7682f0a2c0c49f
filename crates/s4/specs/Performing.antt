-- What the status of a line of words says.
use Rattle.std.specs.Prelude.{◌≡◌, ◌⊎◌, ⊤, ℕ, Bool, List, Option, None, true}
use Rattle.std.specs.Io.KnownBytes.{Keeps}
use Rattle.clap.specs.Faults.{fault_of}
use Rattle.clap.specs.Kinds.{IsAmong}
use Rattle.clap.specs.Takes.{takes}
use Rattle.clap.specs.Walk.{Text}
use Rattle.clap.specs.Simple.{subcommand_of}
use Rattle.clap.specs.declared.error.kind.ErrorKind.{ErrorKind}
use Rattle.s4_command.specs.CommandLine.{line, Spells, SpellsNone}
use Rattle.refused_lines.specs.Refusals.{is_asked_for}
use Rattle.s4_command.specs.declared.Command.{Command}
use Rattle.s4_command.specs.declared.Command.TheVariants as command
use Rattle.s4_command.specs.declared.contents.ExportAsked.{ExportAsked}
use Rattle.s4_command.specs.declared.whole.SalvageAsked.{SalvageAsked}
use Rattle.drive.specs.Fields.{DriveFields}
use Rattle.s4_images.specs.Commands.{OverImage, ChangesImage}
use Rattle.s4_images.specs.declared.commands.Verdict.TheVariants.{Fine, Differs}
use Rattle.s4_reading.specs.Auditing.{PrintsAudit}
use Rattle.s4_reading.specs.Checking.{Checks}
use Rattle.s4_reading.specs.Comparing.{Compares}
use Rattle.s4_reading.specs.Listing.{Lists}
use Rattle.s4_reading.specs.Logging.{Logs}
use Rattle.s4_reading.specs.Reading.{Gives}
use Rattle.s4_reading.specs.Telling.{Informs}
use Rattle.s4_report.specs.Reporting.{ReportsDrive}
use Rattle.s4_restore.specs.Images.{PerformsRestore}
use Rattle.s4_compact.specs.Compacting.{Compacts}
use Rattle.s4_copy.specs.Copying.{CopiesImage}

-- A command is done, by what is known of the files before and after it, by what an export of a drive is and a salvage of a file's bytes, and by what
-- the output has then. `diff` is where nothing that it compares differs (an object with a hidden moment is passed over), and `salvage` where nothing is lost.
abbrev pub IsDoneOver : (files files' : List ℕ → Option (List ℕ)) → (Exported : DriveFields → ExportAsked → Type 0) → (Salvaged : Option (List ℕ) → SalvageAsked → (output output' : Option (List ℕ)) → Type 0) → (output output' : Option (List ℕ)) → Command → Type 0
IsDoneOver files files' Exported Salvaged output output' (command.List list) = OverImage (files list.image.now) (λ d. Lists d list Fine output output')
IsDoneOver files files' Exported Salvaged output output' (command.Log log) = OverImage (files log.image.now) (λ d. Logs d log Fine output output')
IsDoneOver files files' Exported Salvaged output output' (command.Audit audit) = OverImage (files audit.image.now) (λ d. PrintsAudit d audit Fine output output')
IsDoneOver files files' Exported Salvaged output output' (command.Cat cat) = OverImage (files cat.image.now) (λ d. Gives d cat Fine output output')
IsDoneOver files files' Exported Salvaged output output' (command.Info info) = OverImage (files info.image.now) (λ d. Informs d info Fine output output')
IsDoneOver files files' Exported Salvaged output output' (command.Diff diff) = OverImage (files diff.image.now) (λ d. Compares d diff Fine output output')
IsDoneOver files files' Exported Salvaged output output' (command.Report report) = OverImage (files report.image.now) (λ d. ReportsDrive d report Fine output output')
IsDoneOver files files' Exported Salvaged output output' (command.Export export) = OverImage (files export.image.now) (λ d. Exported d export)
IsDoneOver files files' Exported Salvaged output output' (command.Restore restore) = PerformsRestore files files' restore output output'
IsDoneOver files files' Exported Salvaged output output' (command.Check check) = OverImage (files check.image.now) (λ d. Checks d check Fine output output')
IsDoneOver files files' Exported Salvaged output output' (command.Compact compact) = ChangesImage (files compact.image.now) (files' compact.image.now) (λ d later. Compacts d later compact output output')
IsDoneOver files files' Exported Salvaged output output' (command.Copy copy) = CopiesImage (files copy.image.now) (files' copy.copy.now) copy output output'
IsDoneOver files files' Exported Salvaged output output' (command.Salvage salvage) = Salvaged (files salvage.image.now) salvage output output'

-- The reader of the output has gone, and all files are as they were.
abbrev pub IsUnread : (gone : Bool) → (files files' : List ℕ → Option (List ℕ)) → Type 0
IsUnread gone files files' = (gone ≡ true) × ((path : List ℕ) → Keeps (files path) (files' path))

-- What status 0 says of a command: it is done, or the reader of what it prints of an image has gone. The latter isn't enough where the command
-- does more than print, or where its status is asked for.
abbrev pub IsEndedOver : (gone : Bool) → (files files' : List ℕ → Option (List ℕ)) → (Exported : DriveFields → ExportAsked → Type 0) → (Salvaged : Option (List ℕ) → SalvageAsked → (output output' : Option (List ℕ)) → Type 0) → (output output' : Option (List ℕ)) → Command → Type 0
IsEndedOver gone files files' Exported Salvaged output output' (command.Export export) = IsDoneOver files files' Exported Salvaged output output' (command.Export export)
IsEndedOver gone files files' Exported Salvaged output output' (command.Restore restore) = IsDoneOver files files' Exported Salvaged output output' (command.Restore restore)
IsEndedOver gone files files' Exported Salvaged output output' (command.Check check) = IsDoneOver files files' Exported Salvaged output output' (command.Check check)
IsEndedOver gone files files' Exported Salvaged output output' (command.Compact compact) = IsDoneOver files files' Exported Salvaged output output' (command.Compact compact)
IsEndedOver gone files files' Exported Salvaged output output' (command.Copy copy) = IsDoneOver files files' Exported Salvaged output output' (command.Copy copy)
IsEndedOver gone files files' Exported Salvaged output output' (command.Salvage salvage) = IsDoneOver files files' Exported Salvaged output output' (command.Salvage salvage)
IsEndedOver gone files files' Exported Salvaged output output' c = IsDoneOver files files' Exported Salvaged output output' c ⊎ IsUnread gone files files'

-- A command isn't done: all files are as they were. Or it is done, but that this lasts wasn't seen.
abbrev pub IsUndone : (files files' : List ℕ → Option (List ℕ)) → (Done : Type 0) → Type 0
IsUndone files files' Done = ((path : List ℕ) → Keeps (files path) (files' path)) ⊎ Done

-- of the system's files nothing is known
abbrev pub unknown : List ℕ → Option (List ℕ)
unknown path = None

-- The words give no command at this time, where they are words that the line's rules take.
abbrev pub IsUsage : ℕ → List Text → Type 0
IsUsage now words = takes line words ≡ true → SpellsNone now (subcommand_of line words)

-- The parser refuses the words, and one of its reasons is that they ask for help or the version.
pub record IsAskedFor (words : List Text) : Type 0 where
  pub kind : ErrorKind
  pub among : IsAmong kind (fault_of line words)
  pub asked : is_asked_for kind ≡ true

-- The words give a command at this time, which is done; or they give none, and ask for help or the version.
abbrev pub IsDone : ℕ → List Text → (files files' : List ℕ → Option (List ℕ)) → (Exported : DriveFields → ExportAsked → Type 0) → (Salvaged : Option (List ℕ) → SalvageAsked → (output output' : Option (List ℕ)) → Type 0) → (output output' : Option (List ℕ)) → Type 0
IsDone now words files files' Exported Salvaged output output' = ((c : Command) × Spells now (subcommand_of line words) c × IsDoneOver files files' Exported Salvaged output output' c) ⊎ IsAskedFor words

-- What status 0 says: the same, but that a command which only prints isn't done where the reader of the output has gone.
abbrev pub IsEnded : ℕ → List Text → (gone : Bool) → (files files' : List ℕ → Option (List ℕ)) → (Exported : DriveFields → ExportAsked → Type 0) → (Salvaged : Option (List ℕ) → SalvageAsked → (output output' : Option (List ℕ)) → Type 0) → (output output' : Option (List ℕ)) → Type 0
IsEnded now words gone files files' Exported Salvaged output output' =
    ((c : Command) × Spells now (subcommand_of line words) c × IsEndedOver gone files files' Exported Salvaged output output' c) ⊎ IsAskedFor words

-- What status 1 says of a command: of `diff` that something differs, which was printed; of others nothing.
abbrev pub DiffersOver : (files : List ℕ → Option (List ℕ)) → (output output' : Option (List ℕ)) → Command → Type 0
DiffersOver files output output' (command.Diff diff) = OverImage (files diff.image.now) (λ d. Compares d diff Differs output output')
DiffersOver files output output' _ = ⊤

-- The words give a command, and status 1 says this of it; or they give none.
abbrev pub IsDiffering : ℕ → List Text → (files : List ℕ → Option (List ℕ)) → (output output' : Option (List ℕ)) → Type 0
IsDiffering now words files output output' = ((c : Command) × Spells now (subcommand_of line words) c × DiffersOver files output output' c) ⊎ IsUsage now words
