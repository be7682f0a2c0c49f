use Rattle.std.proofs.Common.{◌∙◌, ap, arith}
use Rattle.s4d_command.specs.Rows.{with_arguments}
use Rattle.s4d_command.proofs.LineLemmas.{no_argument_left}
use Rattle.s4d_command.proofs.arguments.add_arguments.Goals as goal

pub returns : goal.returns
returns c app is own =
    let made = no_argument_left c.args.arguments.now c.loop-argument.argument-index _ _ (omega (arith, c.loop-argument-test.false)) c.loop-argument.invariant.line in
    (made ∙ ap (with_arguments c.args.arguments.now) is, c.loop-argument.invariant.own own)
