use Rattle.std.proofs.Common.{◌≡◌, ◌≤◌, ℕ}
use Rattle.s4_types.specs.declared.limits.TheConstants.{RUNS_IN_ALL}
use Rattle.s4_model.specs.Runs.{run_count_of_all}
use Rattle.s4_model.specs.RunCounting.{AllEndBy}
use Rattle.s4_model.proofs.runs.are_too_many.Given as goal

abbrev pub invariant-loop-list : goal.invariant-loop-list
invariant-loop-list l = (l.total ≤ RUNS_IN_ALL) × ((clock : ℕ) → AllEndBy clock l.spans → l.total ≡ run_count_of_all l.floor l.spans clock l.list)
