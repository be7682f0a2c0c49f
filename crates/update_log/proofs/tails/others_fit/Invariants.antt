use Rattle.std.proofs.Common.{ℕ, ◌*◌, ◌<◌, slice_index}
use Rattle.update_log.specs.Tails.{IsFurtherMark}
use Rattle.update_log.proofs.tails.others_fit.Given as goal

abbrev pub invariant-loop-k : goal.invariant-loop-k
invariant-loop-k l = (j : ℕ) → 0 < j → j < l.k → IsFurtherMark (slice_index l.tail (512 * j))
