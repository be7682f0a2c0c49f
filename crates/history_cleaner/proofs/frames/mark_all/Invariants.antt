use Rattle.history_cleaner.proofs.Emptied.{MarksSoFar}
use Rattle.history_cleaner.proofs.frames.mark_all.Given as goal

abbrev pub invariant-loop-frame : goal.invariant-loop-frame
invariant-loop-frame g l = MarksSoFar l.frame l.initial.drive l.drive
