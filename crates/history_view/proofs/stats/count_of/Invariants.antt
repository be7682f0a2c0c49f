use Rattle.std.proofs.Common.{◌≡◌, ◌≤◌, take, count_by}
use Rattle.history_view.specs.LogRows.{is_of}
use Rattle.history_view.proofs.stats.count_of.Given as goal

-- the changes of this kind of the rows so far are counted
abbrev pub invariant-loop-row : goal.invariant-loop-row
invariant-loop-row l = record {
  few : l.count ≤ l.row-index;
  counted : l.count ≡ count_by (is_of l.kind) (take l.row-index l.rows);
}
