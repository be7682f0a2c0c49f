use Rattle.std.proofs.Common.{◌≡◌, drop}
use Rattle.clap.specs.Simple.{app_of}
use Rattle.s4d_command.specs.Rows.{with_rows}
use Rattle.s4d_command.proofs.arguments.add_commands.Given as goal

-- with the commands that are left, the program is what it becomes
abbrev pub invariant-loop-row : goal.invariant-loop-row
invariant-loop-row l = with_rows (drop l.row-index l.rows) (app_of l.program) ≡ with_rows l.rows (app_of l.initial.program)
