use Rattle.std.proofs.Common.{◌≡◌, ◌++◌, map, take}
use Rattle.history_view.specs.declared.rows.LogRow.TheVariants.{Changed}
use Rattle.history_view.proofs.logs.push_changes.Given as goal

-- the rows of the changes so far are added
abbrev pub invariant-loop-change : goal.invariant-loop-change
invariant-loop-change l = l.rows.items ≡ l.initial.rows.items ++ map (Changed l.object) (take l.change-index l.changes)
