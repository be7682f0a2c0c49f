use Rattle.std.proofs.Common.{◌≡◌, ◌++◌}
use Rattle.server.specs.Agenda.{removable}
use Rattle.server.proofs.agenda.Agenda.removable.Given as goal

-- those that came, and those of the Deletes that are left, are all that can be removed
abbrev pub invariant-loop-moment : goal.invariant-loop-moment
invariant-loop-moment l = l.removable.items ++ removable l.floor l.moment-iterator ≡ removable l.floor l.self.deleted.entries
