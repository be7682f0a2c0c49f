use Rattle.std.proofs.Common.{◌≡◌, ◌++◌, map, drop}
use Rattle.window.specs.Runs.{cut}
use Rattle.window.proofs.runs.push_cut.Given as goal

abbrev pub invariant-loop-run : goal.invariant-loop-run
invariant-loop-run l = l.all.items ++ map (cut l.floor) (drop l.run-index l.runs) ≡ l.fn.all.items ++ map (cut l.floor) l.runs
