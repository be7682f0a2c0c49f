use Rattle.std.proofs.Common.{◌≡◌, ◌++◌}
use Rattle.image_salvage.proofs.salvaging.rows_of.Given as goal

abbrev pub invariant-loop-row : goal.invariant-loop-row
invariant-loop-row l = l.rows.items ++ l.row-iterator ≡ l.parts.rows
