use Rattle.std.proofs.Common.{◌≡◌, ◌≤◌, take, count_by}
use Rattle.history_view.specs.LogRows.{begins}
use Rattle.history_view.proofs.stats.count_begun.Given as goal

-- the changes of the rows so far are counted
abbrev pub invariant-loop-row : goal.invariant-loop-row
invariant-loop-row l = record {
  few : l.count ≤ l.row-index;
  counted : l.count ≡ count_by begins (take l.row-index l.rows);
}
