use Rattle.std.proofs.Common.{◌≡◌, ◌++◌, drop}
use Rattle.history_report.specs.Flushes.{flushes_and_windows_among}
use Rattle.history_report.proofs.flushes.flushes_and_windows_among.Given as goal

-- what is kept, and what the rest will give, are all that a page has
abbrev pub invariant-loop-row : goal.invariant-loop-row
invariant-loop-row l = l.kept.items ++ flushes_and_windows_among (drop l.row-index l.rows) ≡ flushes_and_windows_among l.rows
