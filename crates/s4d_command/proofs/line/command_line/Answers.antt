use Rattle.std.specs.Fmt.{digits}
use Rattle.s4d_command.specs.CommandLine.{program}
use Rattle.s4d_command.proofs.line.command_line.Goals as goal

pub returns : goal.returns
unfolding digits
returns c = c.add_commands.ensures program c.empty_program.ensures
