use Rattle.std.proofs.Common.{◌≡◌, ◌+◌, ◌≤◌, ◌++◌, length, reverse}
use Rattle.s4_types.specs.declared.limits.TheConstants.{JOURNAL_ENTRY_BYTES}
use Rattle.codec.specs.Entry.{entries_length_by}
use Rattle.image_objects.specs.Versions.{first_length_by}
use Rattle.image_objects.proofs.Firsts.{first_or}
use Rattle.image_objects.proofs.reading.take_entries.Given as goal

abbrev pub invariant-loop-entry : goal.invariant-loop-entry
invariant-loop-entry l = record {
  entries : l.rest.entries ++ reverse l.entries.items ≡ l.fn.block.entries ++ reverse l.fn.entries.items;
  all : entries_length_by l.version l.rest.entries + l.all ≡ entries_length_by l.version l.fn.block.entries;
  first : first_or l.version l.rest.entries l.first ≡ first_length_by l.version l.fn.block.entries;
  few : entries_length_by l.version l.fn.block.entries ≤ JOURNAL_ENTRY_BYTES;
}

abbrev pub decreases-loop-entry : goal.decreases-loop-entry
decreases-loop-entry l = length l.rest.entries
