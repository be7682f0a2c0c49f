use Rattle.std.proofs.Common.{◌≡◌, ◌++◌, filter, drop}
use Rattle.s4_reading.proofs.choosing.rows_by.Given as goal

-- what is kept, and what the rest will give, are all that are chosen
abbrev pub invariant-loop-row : goal.invariant-loop-row
invariant-loop-row g l = l.kept.items ++ filter (g.C.Chooses.chooses l.by) (drop l.row-index l.rows) ≡ filter (g.C.Chooses.chooses l.by) l.rows
