-- As far as the loop has come, held blocks were counted.
use Rattle.std.proofs.Common.{◌≡◌, ◌≤◌, ◌*◌}
use Rattle.segment_table.specs.Room.{sum_over}
use Rattle.segment_table.specs.Counts.{held_count}
use Rattle.drive_compaction.proofs.past.held_blocks.Given as goal

abbrev pub invariant-loop-frame : goal.invariant-loop-frame
invariant-loop-frame g l =
    record {
      few : l.held ≤ 255 * l.frame;
      sum : l.held ≡ sum_over (held_count l.drive.store.table) 0 l.frame;
    }
