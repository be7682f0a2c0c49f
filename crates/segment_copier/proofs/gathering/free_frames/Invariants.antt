-- As far as the loop has come, the free frames are counted.
use Rattle.std.proofs.Common.{◌≡◌, ◌≤◌}
use Rattle.segment_copier.proofs.Emptied.{free_to}
use Rattle.segment_copier.proofs.gathering.free_frames.Given as goal

abbrev pub invariant-loop-frame : goal.invariant-loop-frame
invariant-loop-frame g l =
    record {
      same : l.drive ≡ l.initial.drive;
      few : l.count ≤ l.frame;
      counted : l.count ≡ free_to l.initial.drive.store.table.seat.frames l.frame;
    }
