-- As far as the loop has come, what is left was counted.
use Rattle.std.proofs.Common.{◌≡◌, ◌≤◌, ◌*◌}
use Rattle.segment_table.specs.Room.{sum_over}
use Rattle.drive_compaction.specs.private.Left.{left_in}
use Rattle.drive_compaction.proofs.left.blocks_left.Given as goal

abbrev pub invariant-loop-frame : goal.invariant-loop-frame
invariant-loop-frame g l =
    record {
      same : l.drive ≡ l.initial.drive;
      few : l.left ≤ 15 * l.frame;
      sum : l.left ≡ sum_over (left_in l.initial.drive.store.table) 0 l.frame;
    }
