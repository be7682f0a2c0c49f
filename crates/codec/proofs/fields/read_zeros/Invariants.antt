use Rattle.std.proofs.Common.{◌≡◌, ◌-◌}
use Rattle.codec.specs.Fields.{zeros_at}
use Rattle.codec.proofs.fields.read_zeros.Given as goal

abbrev pub invariant-loop : goal.invariant-loop
invariant-loop l = zeros_at (l.count - l.counter) l.rest ≡ zeros_at l.count l.bytes
