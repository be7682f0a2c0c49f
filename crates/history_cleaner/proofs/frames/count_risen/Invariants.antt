use Rattle.std.proofs.Common.{◌≡◌}
use Rattle.history_cleaner.proofs.Rising.{RisenSoFar}
use Rattle.history_cleaner.proofs.frames.count_risen.Given as goal

abbrev pub invariant-loop-frame : goal.invariant-loop-frame
invariant-loop-frame g l = record {
  count : RisenSoFar l.noted l.initial.drive.store.table.seat.frames l.frame l.risen;
  same : l.drive ≡ l.initial.drive;
}
