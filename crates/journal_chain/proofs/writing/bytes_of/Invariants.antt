use Rattle.std.proofs.Common.{◌≡◌, ◌≤◌, ◌*◌, length, take}
use Rattle.s4_types.specs.declared.limits.TheConstants.{LONGEST_ENTRY_BYTES, CHAIN_ENTRIES}
use Rattle.codec.specs.Entry.{entries_length}
use Rattle.journal_chain.specs.Packing.{AllFit}
use Rattle.journal_chain.proofs.writing.bytes_of.Given as goal

abbrev pub invariant-loop-entry : goal.invariant-loop-entry
invariant-loop-entry l = record {
  exact : l.bytes ≡ entries_length (take l.entry-index l.entries);
  most : l.bytes ≤ LONGEST_ENTRY_BYTES * l.entry-index;
  few : length l.entries ≤ CHAIN_ENTRIES;
  fit : AllFit (take l.entry-index l.entries);
}
