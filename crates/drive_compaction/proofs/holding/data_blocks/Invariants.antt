-- As far as the loop has come, the data blocks of frames were counted.
use Rattle.std.proofs.Common.{◌≡◌, ◌≤◌, ◌*◌}
use Rattle.segment_table.specs.Room.{sum_over}
use Rattle.drive_compaction.specs.Holding.{data_in}
use Rattle.drive_compaction.proofs.holding.data_blocks.Given as goal

abbrev pub invariant-loop-frame : goal.invariant-loop-frame
invariant-loop-frame g l =
    record {
      same : l.drive ≡ l.initial.drive;
      few : l.count ≤ 15 * l.frame;
      sum : l.count ≡ sum_over (data_in l.initial.drive.store.table) 0 l.frame;
    }
