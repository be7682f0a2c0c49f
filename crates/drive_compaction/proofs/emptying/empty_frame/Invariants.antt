-- As far as the loop has come, the blocks were left one after the other.
use Rattle.std.proofs.Common.{◌≤◌}
use Rattle.drive_compaction.specs.Emptying.{KeepsAll, LeavesBelow}
use Rattle.drive_compaction.proofs.emptying.empty_frame.Given as goal

abbrev pub invariant-loop-index : goal.invariant-loop-index
invariant-loop-index g l =
    record {
      few : l.moves ≤ l.index;
      left : LeavesBelow l.initial.drive l.frame l.generation l.index l.moves l.drive;
      keeps : KeepsAll l.initial.drive l.drive;
    }
