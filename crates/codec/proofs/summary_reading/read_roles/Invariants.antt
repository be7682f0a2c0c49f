use Rattle.std.proofs.Common.{◌≡◌, ◌-◌, ◌≤◌, length}
use Rattle.codec.specs.Fields.{many_at}
use Rattle.codec.specs.Summary.{role_at}
use Rattle.codec.proofs.Many.{with_front}
use Rattle.codec.proofs.summary_reading.read_roles.Given as goal

abbrev pub invariant-loop : goal.invariant-loop
invariant-loop l = record {
  so_far : with_front l.roles.items (many_at role_at (l.used - l.counter) l.rest) ≡ many_at role_at l.used l.bytes;
  few : l.used ≤ 15;
  len : length l.roles.items ≡ l.counter;
}
