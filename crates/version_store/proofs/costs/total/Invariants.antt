use Rattle.std.proofs.Common.{◌≡◌, sum, take}
use Rattle.version_store.proofs.costs.total.Given as goal

abbrev pub invariant-loop-size : goal.invariant-loop-size
invariant-loop-size l = l.total ≡ sum (take l.size-index l.sizes)
