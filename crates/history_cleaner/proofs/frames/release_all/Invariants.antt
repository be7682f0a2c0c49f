-- The frames were looked at from the highest down to this one.
use Rattle.std.proofs.Common.{◌-◌}
use Rattle.history_cleaner.proofs.Emptied.{ReleasesSoFar}
use Rattle.history_cleaner.proofs.frames.release_all.Given as goal

abbrev pub invariant-loop-index : goal.invariant-loop-index
invariant-loop-index g l = ReleasesSoFar (l.count - l.index) l.count l.initial.drive l.drive
