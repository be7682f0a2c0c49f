use Rattle.std.proofs.Common.{◌≡◌, take}
use Rattle.migration.specs.Copies.{rows_left}
use Rattle.migration.proofs.copying.left_of.Given as goal

abbrev pub invariant-loop-row : goal.invariant-loop-row
invariant-loop-row l = l.left.items ≡ rows_left l.asked (take l.row-index l.rows)
