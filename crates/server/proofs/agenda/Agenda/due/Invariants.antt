use Rattle.std.proofs.Common.{◌≡◌, ◌++◌}
use Rattle.server.specs.Agenda.{due_objects}
use Rattle.server.proofs.agenda.Agenda.due.Given as goal

-- those that came, and those of the floors that are left, are all that are due
abbrev pub invariant-loop-object : goal.invariant-loop-object
invariant-loop-object l = l.due.items ++ due_objects l.last l.object-iterator ≡ due_objects l.last l.self.floors.entries
