use Rattle.std.proofs.Common.{ℕ, ◌<◌, ◌≤◌}
use Rattle.history_diff.specs.Ranges.{DiffersAt}
use Rattle.history_diff.proofs.ranges.last_differing.Given as goal

-- the two differ at the positions so far
abbrev pub invariant-loop-position : goal.invariant-loop-position
invariant-loop-position l = (i : ℕ) → l.fn.first ≤ i → i < l.position → DiffersAt l.before l.after i
