use Rattle.std.proofs.Common.{◌≡◌, map, filter, take}
use Rattle.history_view.specs.declared.rows.LogRow.TheVariants.{Hidden}
use Rattle.history_view.specs.Logs.{cuts}
use Rattle.history_view.proofs.logs.with_runs.Given as goal

-- the rows of the runs so far
abbrev pub invariant-loop-run : goal.invariant-loop-run
invariant-loop-run l = l.rows.items ≡ map Hidden (filter (cuts l.asked l.since l.until) (take l.run-index l.runs))
