use Rattle.std.proofs.Common.{◌≤◌, ◌-◌, ◌^◌, arith}
use Rattle.window.specs.Runs.{earliest}
use Rattle.window.proofs.Live.{earliest_bound}
use Rattle.window.proofs.runs.earliest.Goals as goal

pub loop-run-init : goal.loop-run-init
loop-run-init c = let le : earliest c.args.runs.now ≤ 2 ^ 64 - 1 = earliest_bound c.args.runs.now in (omega arith, omega arith)
