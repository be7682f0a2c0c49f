-- The drive that a service opens.
use Rattle.std.specs.Prelude.{ℕ, List, Option}
use Rattle.drive.specs.Opened.{OpenedFields}
use Rattle.verifier.specs.Images.{ImageFields}
use Rattle.verifier.specs.Opened.{IsOpenedOf, TellsBase, begins_with}
use Rattle.image_commands.specs.Verifying.{IsVerified}

-- A drive was opened from what is known of a file: the bytes, where they are known, encode an image, which it has, and they tell what its
-- history begins with.
pub record IsDriveIn (known : Option (List ℕ)) (drive : OpenedFields) : Type 0 where
  pub image : ImageFields
  pub verified : IsVerified known image
  pub opened : IsOpenedOf image drive
  pub tells : TellsBase verified.bytes (begins_with drive)
