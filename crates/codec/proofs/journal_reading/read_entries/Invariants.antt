use Rattle.std.proofs.Common.{◌≡◌, ◌-◌, ◌≤◌, length}
use Rattle.s4_types.specs.declared.limits.TheConstants.{JOURNAL_ENTRIES}
use Rattle.codec.specs.Fields.{many_at}
use Rattle.codec.specs.Entry.{entry_at_by}
use Rattle.codec.proofs.Many.{with_front}
use Rattle.codec.proofs.journal_reading.read_entries.Given as goal

abbrev pub invariant-loop : goal.invariant-loop
invariant-loop l = record {
  so_far : with_front l.entries.items (many_at (entry_at_by l.version) (l.count - l.counter) l.rest) ≡ many_at (entry_at_by l.version) l.count l.bytes;
  few : l.count ≤ JOURNAL_ENTRIES;
  len : length l.entries.items ≡ l.counter;
}
