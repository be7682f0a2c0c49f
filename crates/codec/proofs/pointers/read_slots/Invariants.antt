use Rattle.std.proofs.Common.{◌≡◌, ◌-◌, length}
use Rattle.codec.specs.Fields.{slot_at, many_at}
use Rattle.codec.proofs.Many.{with_front}
use Rattle.codec.proofs.pointers.read_slots.Given as goal

abbrev pub invariant-loop : goal.invariant-loop
invariant-loop g l = record {
  so_far : with_front l.slots.items (many_at slot_at (g.row.N - l.counter) l.rest) ≡ many_at slot_at g.row.N l.bytes;
  len : length l.slots.items ≡ l.counter;
}
