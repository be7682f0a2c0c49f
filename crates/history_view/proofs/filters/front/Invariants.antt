use Rattle.std.proofs.Common.{◌≡◌, ◌++◌, take, drop}
use Rattle.history_view.specs.LogRows.{first_changes}
use Rattle.history_view.proofs.filters.front.Given as goal

-- the rows so far, and what the rest will give, are the first ones
abbrev pub invariant-loop-row : goal.invariant-loop-row
invariant-loop-row l = record {
  counted : l.count ≡ l.row-index;
  front : take l.row-index l.rows ++ first_changes l.left (drop l.row-index l.rows) ≡ first_changes l.fn.changes l.rows;
}
