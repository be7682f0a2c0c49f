use Rattle.std.proofs.Common.{◌≡◌, ◌++◌, false, drop}
use Rattle.history_view.specs.LogRows.{of_kind}
use Rattle.history_view.proofs.filters.of_kind.Given as goal

-- what is kept, and what the rest will give, are all that pass
abbrev pub invariant-loop-row : goal.invariant-loop-row
invariant-loop-row l = l.kept.items ++ of_kind l.asked l.has_passed (drop l.row-index l.rows) ≡ of_kind l.asked false l.rows
