use Rattle.std.proofs.Common.{ℕ, ◌<◌, ◌≤◌}
use Rattle.history_diff.specs.Ranges.{IsAlikeAt}
use Rattle.history_diff.proofs.ranges.first_differing.Given as goal

-- the two are alike at the positions so far
abbrev pub invariant-loop-position : goal.invariant-loop-position
invariant-loop-position l = (i : ℕ) → l.fn.from ≤ i → i < l.position → IsAlikeAt l.before l.after i
