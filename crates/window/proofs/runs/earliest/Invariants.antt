use Rattle.std.proofs.Common.{◌≡◌, ◌≤◌, ◌-◌, ◌^◌, min, drop}
use Rattle.window.specs.Runs.{earliest}
use Rattle.window.proofs.runs.earliest.Given as goal

abbrev pub invariant-loop-run : goal.invariant-loop-run
invariant-loop-run l = (min l.end (earliest (drop l.run-index l.runs)) ≡ earliest l.runs) × (l.end ≤ 2 ^ 64 - 1)
