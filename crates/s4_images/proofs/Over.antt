-- What holds over the drive that an image tells.
use Rattle.std.proofs.Common.{ℕ, List, Option}
use Rattle.drive.specs.Fields.{DriveFields}
use Rattle.drive.specs.Opened.{OpenedFields}
use Rattle.verifier.specs.Images.{ImageFields}
use Rattle.verifier.specs.Opened.{IsOpenedOf}
use Rattle.image_commands.specs.Verifying.{IsVerified}
use Rattle.s4_images.specs.Commands.{OverImage, OverOpened}

-- what holds over a drive that was opened from an image which was read and verified
pub over_opened : (known : Option (List ℕ)) (image : ImageFields) (opened : OpenedFields) (Holds : DriveFields → Type 0) → IsVerified known image → IsOpenedOf image opened → OverOpened opened Holds → OverImage known Holds
over_opened known image opened Holds verified parts over = record {
  drive = over.drive;
  told = record { image = image; verified = verified; opened = opened; parts = parts; named = over.named };
  holds = over.holds;
}
