-- As far as the loop has come, what was counted is of the blocks that were looked at.
use Rattle.std.proofs.Common.{◌≡◌, ◌≤◌}
use Rattle.segment_copier.specs.Choosing.{IsLife}
use Rattle.segment_copier.proofs.FrameCounts.{CountsTo}
use Rattle.segment_copier.proofs.counting.count_frame.Given as goal

abbrev pub invariant-loop-index : goal.invariant-loop-index
invariant-loop-index g l =
    record {
      same : l.drive ≡ l.initial.drive;
      life : 1 ≤ l.index → IsLife l.generation;
      counts : CountsTo (g.W.Rewrites.written l.rewrites l.initial.drive) l.initial.drive.store.table l.frame l.index l.so_far;
    }
