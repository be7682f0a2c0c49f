use Rattle.std.proofs.Common.{◌≡◌, drop}
use Rattle.journal_chain.specs.Sizes.{filled_after}
use Rattle.journal_chain.proofs.packing.sizes.filled_after.Given as goal

abbrev pub invariant-loop-size : goal.invariant-loop-size
invariant-loop-size l = filled_after l.newest (drop l.size-index l.sizes) ≡ filled_after l.fn.filled l.sizes
