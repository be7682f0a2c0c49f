-- What a flush collects of the drive of a service.
use Rattle.std.specs.Prelude.{◌≡◌, ℕ, IfErr, IfOk, Result}
use Rattle.std.specs.Global.{Vec}
use Rattle.atomic_table.specs.Seated.{TableId}
use Rattle.s4_types.specs.History.{Base}
use Rattle.s4_types.specs.declared.refusals.Refusal.{Refusal}
use Rattle.s4_types.specs.declared.refusals.Refusal.TheVariants.{NoMemory}
use Rattle.drive.specs.Fields.{DriveFields, SessionFields, history_of}
use Rattle.verifier.specs.Saved.{with_digest}
use Rattle.kept_drive.specs.Collecting.{HasSeenMore, IsCollected, IsDriveOf}
use Rattle.kept_drive.specs.Images.{IsClosed}
use Rattle.kept_drive.specs.declared.collecting.Collected.{Collected}

-- A session met this drive, which others may have left so, and the drive was collected then, where what was kept before had the last reach; or
-- memory was short.
pub record Collects (frames : TableId) (base : Base) (last : ℕ) (drive : DriveFields) (old new : SessionFields) (given : Result Collected Refusal) : Type 0 where
  pub there : IsDriveOf frames base drive
  pub collected : IfOk given (IsCollected (λ h. h ≡ history_of drive) base new.told.seen last)
  pub refusal : IfErr given (λ e. e ≡ NoMemory)
  pub grows : HasSeenMore old new

-- A session met this drive so, and it was collected then at the end of its service, which began at this moment; or memory was short.
pub record CollectsLast (frames : TableId) (base : Base) (start : ℕ) (drive : DriveFields) (old new : SessionFields) (given : Result (Vec ℕ) Refusal) : Type 0 where
  pub there : IsDriveOf frames base drive
  pub closed : IfOk given (λ front. IsClosed (λ h. h ≡ history_of drive) base new.told.seen start (with_digest front.items))
  pub refusal : IfErr given (λ e. e ≡ NoMemory)
  pub grows : HasSeenMore old new
