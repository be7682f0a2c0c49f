use Rattle.s4_command.specs.CommandLine.{program}
use Rattle.s4_command.proofs.line.command_line.Goals as goal

pub returns : goal.returns
returns c = c.add_commands.ensures program c.empty_program.ensures
