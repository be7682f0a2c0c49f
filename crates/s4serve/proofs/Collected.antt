-- What was collected of a drive that is shown under its lock.
use Rattle.std.proofs.Common.{ℕ, Result, Ok, Err, sym}
use Rattle.std.specs.Prelude.{IfOk}
use Rattle.std.specs.Global.{Vec}
use Rattle.atomic_table.specs.Seated.{TableId}
use Rattle.s4_types.specs.History.{Base}
use Rattle.s4_types.specs.declared.refusals.Refusal.{Refusal}
use Rattle.drive.specs.Fields.{DriveFields, SessionFields}
use Rattle.verifier.specs.Saved.{with_digest}
use Rattle.kept_drive.specs.Collecting.{IsCollected, WasHad}
use Rattle.kept_drive.specs.Images.{IsClosed}
use Rattle.kept_drive.specs.declared.collecting.Collected.{Collected}
use Rattle.s4serve.specs.Collecting.{Collects, CollectsLast}

-- it was collected of a drive that has had its history
pub collected_in : (frames : TableId) (base : Base) (last : ℕ) (drive : DriveFields) (old new : SessionFields) (given : Result Collected Refusal) → Collects frames base last drive old new given → IfOk given (IsCollected (WasHad frames base) base new.told.seen last)
collected_in frames base last drive old new (Ok c) is = record {
  history = is.collected.history;
  had = (drive, is.there, sym is.collected.had);
  begins = is.collected.begins;
  met = is.collected.met;
  is = is.collected.is;
}
collected_in frames base last drive old new (Err e) is = tt

pub closed_in : (frames : TableId) (base : Base) (start : ℕ) (drive : DriveFields) (old new : SessionFields) (given : Result (Vec ℕ) Refusal) → CollectsLast frames base start drive old new given → IfOk given (λ front. IsClosed (WasHad frames base) base new.told.seen start (with_digest front.items))
closed_in frames base start drive old new (Ok front) is = record {
  history = is.closed.history;
  had = (drive, is.there, sym is.closed.had);
  is = is.closed.is;
}
closed_in frames base start drive old new (Err e) is = tt
