use Rattle.s4serve_command.proofs.DoorLemmas.{no_door}
use Rattle.s4serve_command.proofs.doors.door_of.Goals as goal

pub returns-in-None-clause-none : goal.returns-in-None-clause-none
returns-in-None-clause-none c = no_door c.args.word.now c.administrators_door.result c.in-None.ensures.none c.administrators_door.ensures.none
