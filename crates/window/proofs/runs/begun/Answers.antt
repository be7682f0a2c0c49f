use Rattle.std.proofs.Common.{◌<◌, arith}
use Rattle.window.proofs.Walking.{none_begun}
use Rattle.window.proofs.runs.begun.Goals as goal

pub returns-else-number : goal.returns-else-number
returns-else-number c =
    let lt : c.args.at < c.in_ok-run.run'.now.first = omega arith in
    none_begun c.args.at c.in_ok-run.run'.now c.in_ok-run.rest.now c.args.runs.now c.in_ok-run.ensures.cases.0 lt c.requires
