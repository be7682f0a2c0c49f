use Rattle.s4serve_command.specs.CommandLine.{program}
use Rattle.s4serve_command.proofs.line.command_line.Goals as goal

pub returns : goal.returns
returns c = c.add_arguments.ensures program c.empty_program.ensures.line c.empty_program.ensures.own
