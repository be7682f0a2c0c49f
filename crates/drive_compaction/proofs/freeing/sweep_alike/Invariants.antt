-- As far as the loop has come, each frame was freed that could be.
use Rattle.drive_compaction.proofs.Sweeping.{SweepsTo}
use Rattle.drive_compaction.proofs.freeing.sweep_alike.Given as goal

abbrev pub invariant-loop-frame : goal.invariant-loop-frame
invariant-loop-frame g l = SweepsTo l.counts.counted.values l.initial.drive l.held l.frame l.frames l.moves l.drive
