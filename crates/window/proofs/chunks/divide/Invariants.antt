use Rattle.std.proofs.Common.{length}
use Rattle.window.proofs.Dividing.{Divides}
use Rattle.window.proofs.chunks.divide.Given as goal

abbrev pub invariant-loop-list : goal.invariant-loop-list
invariant-loop-list l = Divides l.fn.runs l.chunks.items l.rest

abbrev pub decreases-loop-list : goal.decreases-loop-list
decreases-loop-list l = length l.rest
