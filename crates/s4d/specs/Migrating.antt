-- What `migrate` reads, and what it leaves where it doesn't make a new image.
use Rattle.std.specs.Prelude.{◌≡◌, ◌⊎◌, ℕ, List, length, ⊤, Option, None, Some, string_bytes}
use Rattle.s4_types.specs.declared.refusals.Cause.{Cause}
use Rattle.s4_types.specs.declared.refusals.Refusal.{Refusal}
use Rattle.s4_types.specs.declared.refusals.Refusal.TheVariants.{Damaged, NoMemory, NoRoom}
use Rattle.image_parts.specs.Image.{Image as ImageParts}
use Rattle.verifier.specs.Images.{ImageFields}
use Rattle.s4d_command.specs.declared.Migrate.{Migrate}
use Rattle.image_commands.specs.declared.faults.Fault.{Fault}
use Rattle.image_commands.specs.declared.faults.Fault.TheVariants.{CannotRead, CannotWrite, HasBytes, KeptIn, Refused, WriteFailed}
use Rattle.image_commands.specs.Files.{AreKnown, HasSome}
use Rattle.image_commands.specs.Verifying.{IsVerified, TellsImage, image_line, number_line}
use Rattle.earlier_images.specs.Grammar.{FirstEarlierFault}
use Rattle.migration.specs.Migrated.{IsTooMuch, LaysOut, Migrates}

-- What is known of a file is the new image that an earlier one becomes, by what is known of that. It says what the earlier one says, and its
-- blocks are where they belong.
pub record HasMigrated (earlier known : Option (List ℕ)) : Type 0 where
  pub old : List ℕ
  pub read : AreKnown earlier old
  pub new : List ℕ
  pub migrates : Migrates old new
  pub layout : LaysOut old new
  pub kept : AreKnown known new

-- the line of an image by its parts
abbrev pub parts_line : ImageParts → List ℕ
parts_line parts = number_line (length parts.frames) (length parts.rows) parts.clock parts.window parts.floor

-- a line is that of an image that was read of what is known of a file
pub record HasLine (known : Option (List ℕ)) (line : List ℕ) : Type 0 where
  pub image : ImageFields
  pub verified : IsVerified known image
  pub is : line ≡ image_line image

-- `migrate` has made a new image of an earlier one, and written the line that `verify` writes of it.
pub record MigratesImage (files files' : List ℕ → Option (List ℕ)) (output output' : Option (List ℕ)) (asked : Migrate) : Type 0 where
  pub image : HasMigrated (files asked.earlier.now) (files' asked.image.now)
  pub line : TellsImage (files' asked.image.now) output output'

-- the bytes, where they are known, are no image of an earlier version, for this cause first
abbrev pub IsDamagedEarlier : Option (List ℕ) → Cause → Type 0
IsDamagedEarlier None cause = ⊤
IsDamagedEarlier (Some bytes) cause = FirstEarlierFault bytes (Some cause)

-- the new image of the bytes, where they are known, would have too many frames
abbrev pub IsTooMuchOf : Option (List ℕ) → Type 0
IsTooMuchOf None = ⊤
IsTooMuchOf (Some bytes) = IsTooMuch bytes

-- Why bytes become no new image, by what is known of them.
abbrev pub RefusesEarlier : Option (List ℕ) → Refusal → Type 0
RefusesEarlier known NoRoom = IsTooMuchOf known
RefusesEarlier known (Damaged cause) = IsDamagedEarlier known cause
RefusesEarlier known refusal = refusal ≡ NoMemory

-- why an earlier image can't be claimed: it can't be read, or not be written; or memory was short
abbrev pub SaysUntaken : (earlier : List ℕ) → Fault → Type 0
SaysUntaken earlier (Refused refusal) = refusal ≡ NoMemory
SaysUntaken earlier (CannotRead path obstacle) = path.now ≡ earlier
SaysUntaken earlier (CannotWrite path obstacle) = path.now ≡ earlier
SaysUntaken earlier _ = ⊥

-- why its bytes aren't read: it can't be read; they are no image of an earlier version; or memory was short
abbrev pub SaysEarlierUnread : Option (List ℕ) → (earlier : List ℕ) → Fault → Type 0
SaysEarlierUnread known earlier (Refused refusal) = RefusesEarlier known refusal
SaysEarlierUnread known earlier (CannotRead path obstacle) = path.now ≡ earlier
SaysEarlierUnread known earlier _ = ⊥

-- Why no new image is in its place, by what is known of files before and after: the earlier one can't be read or claimed, or becomes none;
-- what is in the new one's place has bytes; that can't be written or replaced, and a file that is named may have the new image.
abbrev pub SaysUnmigrated : (files files' : List ℕ → Option (List ℕ)) → Migrate → Fault → Type 0
SaysUnmigrated files files' asked (Refused refusal) = RefusesEarlier (files asked.earlier.now) refusal
SaysUnmigrated files files' asked (CannotRead path obstacle) = path.now ≡ asked.earlier.now
SaysUnmigrated files files' asked (CannotWrite path obstacle) = (path.now ≡ asked.earlier.now) ⊎ (path.now ≡ asked.image.now)
SaysUnmigrated files files' asked (HasBytes path) = (path.now ≡ asked.image.now) × HasSome (files asked.image.now)
SaysUnmigrated files files' asked (KeptIn path obstacle kept) =
    (path.now ≡ asked.image.now) × HasMigrated (files asked.earlier.now) (files' (string_bytes kept))
SaysUnmigrated files files' asked WriteFailed = ⊥
