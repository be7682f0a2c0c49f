use Rattle.std.proofs.Common.{◌≡◌, ◌+◌, ℕ, ◌<◌, ◌≤◌, get_or}
use Rattle.server.specs.Attending.{with_part}
use Rattle.server.proofs.running.give_parts.Given as goal

-- those that came have their parts, and the others are as they were
abbrev pub invariant-loop-client : goal.invariant-loop-client
invariant-loop-client g l = record {
  parts : l.rest.parts + l.client-index ≡ l.initial.rest.parts;
  requests : l.rest.requests ≡ l.initial.rest.requests;
  changes : l.rest.changes ≡ l.initial.rest.changes;
  given : (i : ℕ) (d : _) → i < l.client-index → get_or l.clients i d ≡ with_part (get_or l.initial.clients i d);
  others : (i : ℕ) (d : _) → l.client-index ≤ i → get_or l.clients i d ≡ get_or l.initial.clients i d;
}
