-- All objects up to this one were cleaned and counted.
use Rattle.std.proofs.Common.{◌^◌, ◌-◌}
use Rattle.history_cleaner.proofs.Passing.{HasPassed}
use Rattle.history_cleaner.proofs.passes.clean_all.Given as goal

abbrev pub invariant-loop-next : goal.invariant-loop-next
invariant-loop-next g l = HasPassed l.fn.drive l.drive l.object l.cleanings.rewritten l.cleanings.removed

abbrev pub decreases-loop-next : goal.decreases-loop-next
decreases-loop-next g l = 2 ^ 64 - l.object
