-- As far as the loop has come, what is found is told of the blocks that were looked at.
use Rattle.std.proofs.Common.{◌≡◌, ◌≤◌}
use Rattle.segment_copier.specs.Choosing.{IsLife}
use Rattle.segment_copier.specs.private.Surveying.{IsFound}
use Rattle.segment_copier.proofs.choices.lowest_in.Given as goal

abbrev pub invariant-loop-index : goal.invariant-loop-index
invariant-loop-index g l =
    record {
      same : l.drive ≡ l.initial.drive;
      life : 1 ≤ l.index → IsLife l.generation;
      found : IsFound l.initial.drive.store.table l.frame l.index l.lowest;
    }
