use Rattle.std.proofs.Common.{◌≡◌}
use Rattle.time_read.specs.private.Nearest.{nearest_with}
use Rattle.time_read.proofs.starts.nearest.Given as goal

abbrev pub invariant-loop-side : goal.invariant-loop-side
invariant-loop-side l = nearest_with l.entries l.to l.best l.side-iterator.iter.rest.now ≡ nearest_with l.entries l.to l.initial.best l.older
