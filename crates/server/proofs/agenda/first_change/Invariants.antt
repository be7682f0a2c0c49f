use Rattle.std.proofs.Common.{◌≡◌}
use Rattle.server.proofs.agenda.first_change.Given as goal

-- the history stays
abbrev pub invariant-loop : goal.invariant-loop
invariant-loop g l = l.drive.ledger ≡ l.initial.drive.ledger
