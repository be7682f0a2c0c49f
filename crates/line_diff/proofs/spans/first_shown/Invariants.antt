use Rattle.std.proofs.Common.{◌≡◌, ℕ, ◌<◌, ◌≤◌, false, map}
use Rattle.line_diff.specs.Script.{row_of}
use Rattle.line_diff.specs.Spans.{is_near}
use Rattle.line_diff.proofs.spans.first_shown.Given as goal

-- no row so far is shown
abbrev pub invariant-loop-at : goal.invariant-loop-at
invariant-loop-at l = (i : ℕ) → l.fn.from ≤ i → i < l.at → is_near (map row_of l.rows) i ≡ false
