use Rattle.std.proofs.Common.{◌≡◌, ◌≤◌, ◌*◌, length, take}
use Rattle.s4_types.specs.declared.limits.TheConstants.{LONGEST_ENTRY_BYTES, JOURNAL_ENTRIES}
use Rattle.codec.specs.Entry.{entries_length_by}
use Rattle.codec.proofs.journals.byte_sum_by.Given as goal

abbrev pub invariant-loop-entry : goal.invariant-loop-entry
invariant-loop-entry l = record {
  exact : l.bytes ≡ entries_length_by l.version (take l.entry-index l.entries);
  most : l.bytes ≤ LONGEST_ENTRY_BYTES * l.entry-index;
  few : length l.entries ≤ JOURNAL_ENTRIES;
}
