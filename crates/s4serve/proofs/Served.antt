-- A drive that is opened from an image which was read and verified is the one in its file.
use Rattle.std.proofs.Common.{◌≡◌, ℕ, List, Option, None, Some, Result, Ok, Err, ap}
use Rattle.std.specs.Prelude.{IfNone, IfSome, OnOk}
use Rattle.image_commands.specs.Making.{HasNew}
use Rattle.s4serve_command.specs.declared.creating.Creation.{Creation}
use Rattle.s4serve.specs.Serving.{IsFound}
use Rattle.drive.specs.Opened.{OpenedFields}
use Rattle.verifier.specs.Images.{ImageFields}
use Rattle.verifier.specs.Opened.{IsOpenedOf, IsReadOf, TellsBase, begins_with}
use Rattle.image_commands.specs.Verifying.{IsVerified}
use Rattle.s4serve.specs.Opening.{IsDriveIn}

pub drive_in : (known : Option (List ℕ)) (image : ImageFields) (drive : OpenedFields) → IsVerified known image → IsOpenedOf image drive
    → ((bytes : List ℕ) → IsReadOf bytes image → TellsBase bytes (begins_with drive)) → IsDriveIn known drive
drive_in known image drive verified opened tells = record {
  image = image;
  verified = verified;
  opened = opened;
  tells = tells verified.bytes (record { parts = _; spelled = verified.spelled; told = verified.told });
}

-- what is known of the image that a service opens
pub found : {X : Type 0} (view : X → Option (List ℕ)) (create : Option Creation) (old new : X) → IfSome create (λ c. HasNew c.frames c.keep (view new)) → IfNone create (new ≡ old)
    → IsFound create (view old) (view new)
found view None old new made same = ap view same
found view (Some c) old new made same = made

-- what holds where a call ended well in three ways
pub on_all : {X E : Type 0} {A B C D : Type 0} (r : Result X E) → (A → B → C → D) → OnOk r A → OnOk r B → OnOk r C → OnOk r D
on_all (Ok x) all a b c = all a b c
on_all (Err e) all a b c = tt
