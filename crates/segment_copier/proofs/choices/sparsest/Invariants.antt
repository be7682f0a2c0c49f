-- As far as the loop has come, the best of the frames that were looked at is known.
use Rattle.std.proofs.Common.{◌≡◌}
use Rattle.segment_copier.specs.private.Surveying.{IsBestBelow}
use Rattle.segment_copier.proofs.choices.sparsest.Given as goal

abbrev pub invariant-loop-frame : goal.invariant-loop-frame
invariant-loop-frame g l =
    record {
      same : l.drive ≡ l.initial.drive;
      best : IsBestBelow l.initial.drive.store.table l.frame l.best;
    }
