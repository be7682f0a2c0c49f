-- What holds of the drive that an image tells.
use Rattle.std.specs.Prelude.{◌⊎◌, ℕ, List, Option}
use Rattle.drive.specs.Fields.{DriveFields}
use Rattle.drive.specs.Opened.{OpenedFields}
use Rattle.verifier.specs.Images.{ImageFields}
use Rattle.verifier.specs.Opened.{IsOpenedOf, IsNamedOf}
use Rattle.verifier.specs.Saved.{SpellsSaved}
use Rattle.image_commands.specs.Files.{AreKnown}
use Rattle.image_commands.specs.Verifying.{IsVerified}
use Rattle.s4_images.specs.Failures.{HasNoMoments}
use Rattle.s4_images.specs.declared.faults.Failure.{Failure}

-- The drive that an image tells: one that is opened from an image which was read and verified, and to which nothing has come yet.
pub record IsToldDrive (known : Option (List ℕ)) (d : DriveFields) : Type 0 where
  pub image : ImageFields
  pub verified : IsVerified known image
  pub opened : OpenedFields
  pub parts : IsOpenedOf image opened
  pub named : IsNamedOf opened d

-- Something holds of a drive that was opened.
pub record OverOpened (opened : OpenedFields) (Holds : DriveFields → Type 0) : Type 0 where
  pub drive : DriveFields
  pub named : IsNamedOf opened drive
  pub holds : Holds drive

-- It holds of the drive that an image tells.
pub record OverImage (known : Option (List ℕ)) (Holds : DriveFields → Type 0) : Type 0 where
  pub drive : DriveFields
  pub told : IsToldDrive known drive
  pub holds : Holds drive

-- A failure is of an image that isn't read or opened, and has no moments; or this holds of it and of the drive that the image tells.
abbrev pub FailsOver : (known : Option (List ℕ)) → (Fails : DriveFields → Failure → Type 0) → Failure → Type 0
FailsOver known Fails failure = HasNoMoments failure ⊎ OverImage known (λ d. Fails d failure)

-- A drive is changed so, and saved as these bytes.
pub record SavesChanged (Changes : DriveFields → Type 0) (bytes : List ℕ) : Type 0 where
  pub later : DriveFields
  pub changes : Changes later
  pub saved : SpellsSaved later bytes

-- A drive that was opened is changed, and what it is saved as is what is known of a file then.
pub record SavesOpened (opened : OpenedFields) (known' : Option (List ℕ)) (Changes : DriveFields → DriveFields → Type 0) : Type 0 where
  pub bytes : List ℕ
  pub changed : OverOpened opened (λ d. SavesChanged (Changes d) bytes)
  pub kept : AreKnown known' bytes

-- The same of a drive that was opened from this image.
pub record SavesRead (image : ImageFields) (known' : Option (List ℕ)) (Changes : DriveFields → DriveFields → Type 0) : Type 0 where
  pub opened : OpenedFields
  pub parts : IsOpenedOf image opened
  pub saves : SavesOpened opened known' Changes

-- The drive that an image told is changed, and its file has what it is saved as then.
pub record ChangesImage (known known' : Option (List ℕ)) (Changes : DriveFields → DriveFields → Type 0) : Type 0 where
  pub drive : DriveFields
  pub told : IsToldDrive known drive
  pub later : DriveFields
  pub changes : Changes drive later
  pub bytes : List ℕ
  pub saved : SpellsSaved later bytes
  pub kept : AreKnown known' bytes
