-- As far as the loop has come, the frames that hold nothing then are counted.
use Rattle.std.proofs.Common.{◌≡◌, ◌≤◌}
use Rattle.segment_table.specs.Room.{sum_over}
use Rattle.drive_compaction.proofs.Taken.{emptied_at}
use Rattle.drive_compaction.proofs.frames.frames_emptied.Given as goal

abbrev pub invariant-loop-frame : goal.invariant-loop-frame
invariant-loop-frame g l =
    record {
      same : l.drive ≡ l.initial.drive;
      few : l.count ≤ l.frame;
      counted : l.count ≡ sum_over (emptied_at l.initial.drive.store.table l.objects l.left) 0 l.frame;
    }
