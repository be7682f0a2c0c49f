use Rattle.std.proofs.Common.{◌≡◌, ◌≤◌, take, count_by}
use Rattle.segment_table.specs.Room.{can_open}
use Rattle.s4_reading.specs.Telling.{is_retired}
use Rattle.s4_reading.proofs.telling.count_free.Given as goal

-- the frames so far are counted, and the drive is as it was
abbrev pub invariant-loop-frame : goal.invariant-loop-frame
invariant-loop-frame g l = record {
  same : l.drive ≡ l.initial.drive;
  few : l.free ≤ l.frame;
  few_retired : l.retired ≤ l.frame;
  free : l.free ≡ count_by can_open (take l.frame l.initial.drive.store.table.seat.frames);
  retired : l.retired ≡ count_by is_retired (take l.frame l.initial.drive.store.table.seat.frames);
}
