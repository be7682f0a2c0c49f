use Rattle.std.proofs.Common.{◌∙◌, ap, arith}
use Rattle.clap.specs.Simple.{App, app_of, with_subcommand}
use Rattle.s4d_command.specs.Rows.{with_rows}
use Rattle.s4d_command.proofs.LineLemmas.{no_row_left, one_row_less}
use Rattle.s4d_command.proofs.arguments.add_commands.Goals as goal

pub loop-row-preserved : goal.loop-row-preserved
loop-row-preserved c =
    let made : _ = c.in_ok-command_of.ensures in
    one_row_less c.args.rows.now _ c.loop-row.row-index (app_of c.loop-row.program) _ _ c.loop-row-test.true
    (c.in_ok-program.ensures.shape made.1 ∙ ap (λ (a : App). with_subcommand (app_of c.loop-row.program) a.top) made.0)
    c.loop-row.invariant

pub returns : goal.returns
returns c app is =
    no_row_left c.args.rows.now c.loop-row.row-index _ _ (omega (arith, c.loop-row-test.false)) c.loop-row.invariant
    ∙ ap (with_rows c.args.rows.now) is
