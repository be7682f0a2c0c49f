use Rattle.std.proofs.Common.{◌≡◌, ◌-◌, ◌≤◌, length}
use Rattle.s4_types.specs.declared.limits.TheConstants.{ENTRY_TRIPLES}
use Rattle.codec.specs.Fields.{many_at}
use Rattle.codec.specs.Entry.{triple_at_by}
use Rattle.codec.proofs.Many.{with_front}
use Rattle.codec.proofs.entry_reading.read_triples.Given as goal

abbrev pub invariant-loop : goal.invariant-loop
invariant-loop l = record {
  so_far : with_front l.triples.items (many_at (triple_at_by l.version) (l.count - l.counter) l.rest) ≡ many_at (triple_at_by l.version) l.count l.bytes;
  few : l.count ≤ ENTRY_TRIPLES;
  len : length l.triples.items ≡ l.counter;
}
