use Rattle.std.proofs.Common.{◌≡◌, ◌++◌, drop}
use Rattle.image_objects.specs.Moments.{moments_of_chain}
use Rattle.verifier.proofs.Telling.{told_from}
use Rattle.verifier.proofs.moments.push_moments.Given as goal

abbrev pub invariant-loop-entry : goal.invariant-loop-entry
invariant-loop-entry l = l.moments.items ++ told_from l.last (drop l.entry-index l.entries) ≡ l.fn.moments.items ++ moments_of_chain l.entries
