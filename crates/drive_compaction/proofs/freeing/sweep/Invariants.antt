-- As far as the loop has come, each frame with at most this number of held blocks was freed that could be.
use Rattle.drive_compaction.proofs.Sweeping.{SweepsFew}
use Rattle.drive_compaction.proofs.freeing.sweep.Given as goal

abbrev pub invariant-loop-index : goal.invariant-loop-index
invariant-loop-index g l = SweepsFew l.counts.counted.values l.initial.drive l.index l.frames l.moves l.drive
