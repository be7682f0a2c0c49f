-- What the status of a line of words says.
use Rattle.std.specs.Prelude.{◌≡◌, ◌≢◌, ◌⊎◌, ◌+◌, ◌≤◌, ℕ, Bool, List, Option, None, true, false, ⊤, vec_len}
use Rattle.clap.specs.Takes.{takes}
use Rattle.clap.specs.Walk.{Text}
use Rattle.clap.specs.Simple.{subcommand_of}
use Rattle.s4_types.specs.Sizes.{IsFrameCount}
use Rattle.s4_types.specs.declared.refusals.Refusal.TheVariants.{Busy, NoMemory}
use Rattle.s4d_command.specs.CommandLine.{line, Spells, SpellsNone}
use Rattle.s4d_command.specs.declared.At.{At}
use Rattle.s4d_command.specs.declared.Migrate.{Migrate}
use Rattle.s4d_command.specs.declared.New.{New}
use Rattle.s4d_command.specs.declared.Pipe.{Pipe}
use Rattle.s4d_command.specs.declared.Run.{Run}
use Rattle.s4d_command.specs.declared.Verify.{Verify}
use Rattle.s4d_command.specs.declared.Command.{Command}
use Rattle.s4d_command.specs.declared.Command.TheVariants as command
use Rattle.serving.specs.declared.ends.ServeEnd.TheVariants.{Ended}
use Rattle.image_commands.specs.declared.faults.Fault.TheVariants.{WriteFailed}
use Rattle.image_commands.specs.declared.host_files.Output.{Output}
use Rattle.image_commands.specs.Faults.{KeepsMade, SaysUnmade, SaysUnverified}
use Rattle.image_commands.specs.Making.{HasNew}
use Rattle.image_commands.specs.ReadingPast.{GivesObject, SaysUngiven}
use Rattle.image_commands.specs.Verifying.{TellsImage}
use Rattle.s4d.specs.declared.faults.Undone.{Undone}
use Rattle.s4d.specs.declared.faults.Undone.TheVariants as undone
use Rattle.s4d.specs.Migrating.{HasMigrated, MigratesImage, SaysUnmigrated}
use Rattle.s4d.specs.Opening.{HoldsAt}
use Rattle.s4d.specs.Piping.{Pipes}
use Rattle.s4d.specs.Running.{RunsImage, SaysNotRun}

-- of the system's files nothing is known
abbrev pub unknown : List ℕ → Option (List ℕ)
unknown path = None

-- nor of what their writers hold
abbrev pub any_writer : List ℕ → Option (List ℕ) → Type 0
any_writer = HoldsAt (λ (writer : Output) path. ⊤) (λ writer. None)

-- The words give no command, where they are words that the line's rules take.
abbrev pub IsUsage : List Text → Type 0
IsUsage words = takes line words ≡ true → SpellsNone (subcommand_of line words)

-- the status of what isn't done
abbrev pub status_of : Undone → ℕ
status_of undone.Usage = 2
status_of _ = 1

-- A command is done, by the bytes that a writer of a file holds, by what is known of files before and after, and by what the input and the
-- output have: a session of a new drive read the input, wrote the output, and came to the end of the input; there is the image of a new
-- drive of this many frames with this window; the line of an image is written; an image was read, a drive that began with it served each
-- session to the end of its input, and what it is saved as is there; the bytes of an object at a moment are written; there is the new image
-- of an earlier one, and its line is written.
abbrev pub IsDoneOf : (opens : List ℕ → Option (List ℕ) → Type 0) → (files files' : List ℕ → Option (List ℕ)) → (input output input' output' : Option (List ℕ)) → Command → Type 0
IsDoneOf opens files files' input output input' output' (command.Pipe pipe) = Pipes pipe Ended input output input' output'
IsDoneOf opens files files' input output input' output' (command.New new) = HasNew new.frames new.window (files' new.image.now)
IsDoneOf opens files files' input output input' output' (command.Verify verify) = TellsImage (files verify.image.now) output output'
IsDoneOf opens files files' input output input' output' (command.Run run) = RunsImage opens run files files' (files' run.image.now) true
IsDoneOf opens files files' input output input' output' (command.At at) = GivesObject (files at.image.now) at.object at.moment output output'
IsDoneOf opens files files' input output input' output' (command.Migrate migrate) = MigratesImage files files' output output' migrate

-- The words give a command, which is done.
abbrev pub IsDone : List Text → (opens : List ℕ → Option (List ℕ) → Type 0) → (files files' : List ℕ → Option (List ℕ)) → (input output input' output' : Option (List ℕ)) → Type 0
IsDone words opens files files' input output input' output' =
    (c : Command) × Spells (subcommand_of line words) c × IsDoneOf opens files files' input output input' output' c

-- a new drive is to have as many frames as one may have, and a run has as many sessions
abbrev pub IsWithinLimits : Command → Type 0
IsWithinLimits (command.Pipe pipe) = IsFrameCount pipe.frames
IsWithinLimits (command.New new) = IsFrameCount new.frames
IsWithinLimits (command.Run run) = vec_len run.sessions ≤ 16
IsWithinLimits _ = ⊤

-- a session had no drive, and nothing was read or written; or it came to another end than that of its input
abbrev pub SaysUnpiped : (input output input' output' : Option (List ℕ)) → Pipe → Undone → Type 0
SaysUnpiped input output input' output' pipe (undone.NoDrive refusal) = ((refusal ≡ NoMemory) ⊎ (refusal ≡ Busy)) × (input' ≡ input) × (output' ≡ output)
SaysUnpiped input output input' output' pipe (undone.OtherEnd end) = (end ≢ Ended) × Pipes pipe end input output input' output'
SaysUnpiped input output input' output' pipe _ = ⊥

-- no image of a new drive is there, or it is there, and may not last
abbrev pub SaysNotNew : (files files' : List ℕ → Option (List ℕ)) → New → Undone → Type 0
SaysNotNew files files' new (undone.Failed fault) = SaysUnmade (files new.image.now) new.image.now fault × KeepsMade new.frames new.window files' fault
SaysNotNew files files' new (undone.Unlasting path) = (path.now ≡ new.image.now) × HasNew new.frames new.window (files' new.image.now)
SaysNotNew files files' new _ = ⊥

-- no line of an image is written
abbrev pub SaysNotVerified : (files : List ℕ → Option (List ℕ)) → (failures failures' : ℕ) → Verify → Undone → Type 0
SaysNotVerified files failures failures' verify (undone.Failed fault) = SaysUnverified (files verify.image.now) verify.image.now failures failures' fault
SaysNotVerified files failures failures' verify _ = ⊥

-- the bytes of an object at a moment aren't written
abbrev pub SaysNotGiven : (files : List ℕ → Option (List ℕ)) → (failures failures' : ℕ) → At → Undone → Type 0
SaysNotGiven files failures failures' at (undone.Failed fault) = SaysUngiven (files at.image.now) at.image.now at.object at.moment failures failures' fault
SaysNotGiven files failures failures' at _ = ⊥

-- no new image of an earlier one is there; or it is there, and may not last, or its line isn't written, as the output failed once more
abbrev pub SaysNotMigrated : (files files' : List ℕ → Option (List ℕ)) → (failures failures' : ℕ) → Migrate → Undone → Type 0
SaysNotMigrated files files' failures failures' asked (undone.Failed WriteFailed) =
    (failures' ≡ failures + 1) × HasMigrated (files asked.earlier.now) (files' asked.image.now)
SaysNotMigrated files files' failures failures' asked (undone.Failed fault) = SaysUnmigrated files files' asked fault
SaysNotMigrated files files' failures failures' asked (undone.Unlasting path) =
    (path.now ≡ asked.image.now) × HasMigrated (files asked.earlier.now) (files' asked.image.now)
SaysNotMigrated files files' failures failures' asked _ = ⊥

-- Sessions weren't served or not saved; what they did is there, and may not last; or it is there, and not each session came to the end of
-- its input, with its replies in its file.
abbrev pub SaysRunUndone : (opens : List ℕ → Option (List ℕ) → Type 0) → (files files' : List ℕ → Option (List ℕ)) → Run → Undone → Type 0
SaysRunUndone opens files files' run (undone.NotRun fault) = SaysNotRun opens run files files' fault
SaysRunUndone opens files files' run (undone.Unlasting path) =
    (path.now ≡ run.image.now) × (ended : Bool) × RunsImage opens run files files' (files' run.image.now) ended
SaysRunUndone opens files files' run undone.Unended = RunsImage opens run files files' (files' run.image.now) false
SaysRunUndone opens files files' run _ = ⊥

-- What is known: which bytes a writer of a file holds, what files, the input and the output have before and after, and how often the output
-- has failed.
module _ (opens : List ℕ → Option (List ℕ) → Type 0) (files files' : List ℕ → Option (List ℕ)) (input output input' output' : Option (List ℕ)) (failures failures' : ℕ) where
  -- why a command isn't done
  abbrev pub SaysUndoneOf : Command → Undone → Type 0
  SaysUndoneOf (command.Pipe pipe) why = SaysUnpiped input output input' output' pipe why
  SaysUndoneOf (command.New new) why = SaysNotNew files files' new why
  SaysUndoneOf (command.Verify verify) why = SaysNotVerified files failures failures' verify why
  SaysUndoneOf (command.Run run) why = SaysRunUndone opens files files' run why
  SaysUndoneOf (command.At at) why = SaysNotGiven files failures failures' at why
  SaysUndoneOf (command.Migrate migrate) why = SaysNotMigrated files files' failures failures' migrate why

  -- Why a line of words isn't done: the words give no command; memory was short for them; or they encode one that isn't done.
  abbrev pub SaysUndone : List Text → Undone → Type 0
  SaysUndone words why = ((why ≡ undone.Usage) × IsUsage words) ⊎ ((why ≡ undone.NoMemory)
      ⊎ ((c : Command) × Spells (subcommand_of line words) c × SaysUndoneOf c why))

  -- a status is that of a line of words which isn't done for a reason that is so
  pub record IsUndone (words : List Text) (status : ℕ) : Type 0 where
    pub why : Undone
    pub is : status ≡ status_of why
    pub says : SaysUndone words why
