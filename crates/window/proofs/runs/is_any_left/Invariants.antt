use Rattle.std.proofs.Common.{◌+◌, length}
use Rattle.window.proofs.Walking.{Walks}
use Rattle.window.proofs.runs.is_any_left.Given as goal

abbrev pub invariant-loop-run : goal.invariant-loop-run
invariant-loop-run l = Walks l.fn.all l.fn.own l.fn.from l.all_left l.own_left l.at l.to

abbrev pub decreases-loop-run : goal.decreases-loop-run
decreases-loop-run l = length l.all_left + length l.own_left
