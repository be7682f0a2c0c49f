use Rattle.std.proofs.Common.{◌≡◌, ℕ, ◌<◌, ◌≤◌, true, map}
use Rattle.line_diff.specs.Script.{row_of}
use Rattle.line_diff.specs.Spans.{is_near}
use Rattle.line_diff.proofs.spans.last_shown.Given as goal

-- the rows so far are shown
abbrev pub invariant-loop-at : goal.invariant-loop-at
invariant-loop-at l = (i : ℕ) → l.fn.first ≤ i → i < l.at → is_near (map row_of l.rows) i ≡ true
