-- What `run` reads, serves and saves, and what it leaves where it doesn't.
use Rattle.std.specs.Prelude.{◌≡◌, ◌↔◌, ◌⊎◌, ◌≤◌, ◌+◌, ◌*◌, ℕ, All, Any, Bool, IfSome, IsTrue, List, [], Option, ⊤, length, string_bytes, sum_by}
use Rattle.std.specs.Io.KnownBytes.{Keeps}
use Rattle.std.specs.List.{AllZip}
use Rattle.s4_types.specs.History.{Base, accepted}
use Rattle.s4_types.specs.declared.refusals.Refusal.TheVariants.{Busy, NoMemory}
use Rattle.segment_word.specs.AcceptRule.{FitsLedger}
use Rattle.segment_word.specs.AcceptViews.{begun}
use Rattle.drive.specs.Fields.{DriveFields, SessionFields, history_of, state_in}
use Rattle.serving.specs.declared.ends.ServeEnd.TheVariants.{Ended}
use Rattle.server.specs.Accounts.{PartFields, requests_in, changes_in}
use Rattle.server.specs.Attending.{IsAttended}
use Rattle.server.specs.Drawing.{AreTicks, ClockFields}
use Rattle.server.specs.Sequence.{HasCome}
use Rattle.server.specs.Sharing.{IsSharedDrive}
use Rattle.server.specs.declared.running.Outcome.{Outcome}
use Rattle.server.specs.declared.running.Outcome.TheVariants.{Served}
use Rattle.image_parts.specs.Image.{image_in}
use Rattle.verifier.specs.Images.{ImageFields}
use Rattle.verifier.specs.Opened.{IsToldBy}
use Rattle.verifier.specs.Saved.{SpellsSaved}
use Rattle.s4d_command.specs.declared.Run.{Run}
use Rattle.s4d_command.specs.declared.sessions.RunSession.{RunSession}
use Rattle.image_commands.specs.declared.faults.Fault.{Fault}
use Rattle.image_commands.specs.declared.faults.Fault.TheVariants.{CannotRead, CannotWrite, KeptIn, Refused}
use Rattle.image_commands.specs.Faults.{SaysDamaged}
use Rattle.image_commands.specs.Files.{AreKnown}
use Rattle.image_commands.specs.Verifying.{IsVerified}
use Rattle.s4d.specs.declared.faults.RunFault.{RunFault}
use Rattle.s4d.specs.declared.faults.RunFault.TheVariants.{Unsaved, Unserved}

-- A drive whose history begins with a base is left, and its blocks decode to the versions of that history. This holds of what became of
-- its sessions, and this of what it is saved as.
pub record LeavesDrive (base : Base) (sessions saved : DriveFields → Type 0) : Type 0 where
  pub drive : DriveFields
  pub there : IsSharedDrive base drive
  pub settled : sessions drive
  pub spelled : saved drive

-- a drive is saved as the bytes of a file, where these are known
pub record IsSavedIn (known : Option (List ℕ)) (drive : DriveFields) : Type 0 where
  pub bytes : List ℕ
  pub spelled : SpellsSaved drive bytes
  pub kept : AreKnown known bytes

-- What the streams of a session that the line asks for have at first: its reader what is known of its file before anything is written,
-- and its writer nothing, which is a writer of its own file.
pub record HasFiles (opens : List ℕ → Option (List ℕ) → Type 0) (files : List ℕ → Option (List ℕ)) (asked : RunSession) (input output : Option (List ℕ)) : Type 0 where
  pub readable : Keeps (files asked.input.now) input
  pub opened : opens asked.output.now output
  pub empty : AreKnown output []

-- what became of a session of the line: its outcome, how many requests of it were answered, and how many of its changes accepted
pub record Came : Type 0 where
  pub outcome : Outcome
  pub requests : ℕ
  pub changes : ℕ

-- What became of a session that the line asks for, beside the drive that is saved: it was attended in its role, and what it was told
-- fits that drive. So the drive's history begins with all that the session had seen, and has the session's own changes, which its
-- replies acknowledge. Where the paths of outputs lead to what was written, its file has just what its writer took, which is its replies.
pub record RunsSession (base : Base) (reserve : ℕ) (moments : List ℕ → Type 0) (opens : List ℕ → Option (List ℕ) → Type 0) (files files' : List ℕ → Option (List ℕ)) (there : Bool) (drive : DriveFields) (asked : RunSession) (came : Came) : Type 0 where
  pub input : Option (List ℕ)
  pub output : Option (List ℕ)
  pub first : HasFiles opens files asked input output
  pub unread : Option (List ℕ)
  pub written : Option (List ℕ)
  pub session : Option SessionFields
  pub part : Option PartFields
  pub attended : IsAttended base reserve moments asked.role came.outcome session part input output unread written
  pub requests : came.requests ≡ requests_in part
  pub changes : came.changes ≡ changes_in part
  pub told : IfSome session (λ last. FitsLedger drive.ledger last.told)
  pub left : IsTrue there → Keeps written (files' asked.output.now)

-- a drive that nothing was asked of yet: its history is this base
abbrev pub IsUnasked : Base → DriveFields → Type 0
IsUnasked base drive = drive.ledger ≡ begun base

-- Each session of the line came to this, at moments that may be drawn so; and all of them ended at the end of their input, with the paths of their outputs leading to what
-- was written, exactly where that is answered. The drive is what the requests that were answered to them have made, in their order, of one
-- whose history was the base; and without upkeep nothing else was done to it. So its accepted changes are as many as were accepted for
-- the sessions of the line; and its clock is at most a tick for each request after the clock's start, and a moment for each such change.
pub record RunsSessions (base : Base) (reserve : ℕ) (moments : List ℕ → Type 0) (clock : ClockFields) (has_upkeep : Bool) (opens : List ℕ → Option (List ℕ) → Type 0) (files files' : List ℕ → Option (List ℕ)) (sessions : List RunSession) (ended : Bool) (drive : DriveFields) : Type 0 where
  pub came : List Came
  pub there : Bool
  pub each : AllZip (RunsSession base reserve moments opens files files' there drive) sessions came
  pub ends : IsTrue ended ↔ (IsTrue there × All (λ c. c.outcome ≡ Served Ended) came)
  pub come : HasCome (IsUnasked base) moments has_upkeep (sum_by (λ c. c.requests) came) (sum_by (λ c. c.changes) came) drive
  pub changes : length (accepted (history_of drive)) ≡ sum_by (λ c. c.changes) came
  pub latest : (state_in drive).clock ≤ clock.start + sum_by (λ c. c.requests) came * clock.tick + sum_by (λ c. c.changes) came

-- What `run` does, by what is known of files before and after, and of the file that the new image is in. The image was read and verified.
-- A drive whose history began with what it told served the sessions of the line, from the image's clock on and a tick for each request; and
-- what it is saved as then is in that file.
pub record RunsImage (opens : List ℕ → Option (List ℕ) → Type 0) (run : Run) (files files' : List ℕ → Option (List ℕ)) (saved : Option (List ℕ)) (ended : Bool) : Type 0 where
  pub image : ImageFields
  pub verified : IsVerified (files run.image.now) image
  pub base : Base
  pub told : IsToldBy (image_in verified.bytes) base
  pub leaves : LeavesDrive base (RunsSessions base 0 (AreTicks (record { start = image.clock; tick = run.tick })) (record { start = image.clock; tick = run.tick }) run.upkeep opens files files' run.sessions.items ended) (IsSavedIn saved)

-- no session was served
abbrev pub IsUnserved : RunFault → Type 0
IsUnserved (Unserved fault) = ⊤
IsUnserved (Unsaved fault) = ⊥

-- no session writes the file at a path
abbrev pub IsUnwritten : (apart : List ℕ → List ℕ → Type 0) → List RunSession → List ℕ → Type 0
IsUnwritten apart sessions path = All (λ asked. apart path asked.output.now) sessions

-- Why no session was served, by what is known of the image: it, or what a session reads, can't be read; it, or what a session writes,
-- can't be written; it is damaged; or memory or seats were short.
abbrev pub SaysUnserved : Option (List ℕ) → (image : List ℕ) → List RunSession → Fault → Type 0
SaysUnserved known image sessions (Refused refusal) = (refusal ≡ NoMemory) ⊎ ((refusal ≡ Busy) ⊎ SaysDamaged known refusal)
SaysUnserved known image sessions (CannotRead path obstacle) = (path.now ≡ image) ⊎ Any (λ asked. path.now ≡ asked.input.now) sessions
SaysUnserved known image sessions (CannotWrite path obstacle) = (path.now ≡ image) ⊎ Any (λ asked. path.now ≡ asked.output.now) sessions
SaysUnserved known image sessions _ = ⊥

-- Why what sessions did isn't in the image's place: memory was short; that can't be written; or a file that is named has it in place of it.
abbrev pub SaysUnsaved : (image : List ℕ) → (Has : Option (List ℕ) → Type 0) → (files' : List ℕ → Option (List ℕ)) → Fault → Type 0
SaysUnsaved image Has files' (Refused refusal) = refusal ≡ NoMemory
SaysUnsaved image Has files' (CannotWrite path obstacle) = path.now ≡ image
SaysUnsaved image Has files' (KeptIn path obstacle kept) = (path.now ≡ image) × Has (files' (string_bytes kept))
SaysUnsaved image Has files' _ = ⊥

-- Why sessions over an image have not left what they are to leave.
abbrev pub SaysUnrun : Option (List ℕ) → (image : List ℕ) → List RunSession → (Has : Option (List ℕ) → Type 0) → (files' : List ℕ → Option (List ℕ)) → RunFault → Type 0
SaysUnrun known image sessions Has files' (Unserved fault) = SaysUnserved known image sessions fault
SaysUnrun known image sessions Has files' (Unsaved fault) = SaysUnsaved image Has files' fault

-- Why `run` isn't done.
abbrev pub SaysNotRun : (opens : List ℕ → Option (List ℕ) → Type 0) → Run → (files files' : List ℕ → Option (List ℕ)) → RunFault → Type 0
SaysNotRun opens run files files' =
    SaysUnrun (files run.image.now) run.image.now run.sessions.items (λ saved. (ended : Bool) × RunsImage opens run files files' saved ended) files'
