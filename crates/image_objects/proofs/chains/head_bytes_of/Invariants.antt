use Rattle.std.proofs.Common.{◌≡◌, ◌≤◌, map, take}
use Rattle.s4_types.specs.declared.limits.TheConstants.{JOURNAL_ENTRY_BYTES}
use Rattle.codec.specs.Entry.{entry_length}
use Rattle.journal_chain.specs.Sizes.{filled_after}
use Rattle.image_objects.proofs.chains.head_bytes_of.Given as goal

abbrev pub invariant-loop-entry : goal.invariant-loop-entry
invariant-loop-entry l = record {
  exact : l.newest ≡ filled_after 0 (map entry_length (take l.entry-index l.entries));
  most : l.newest ≤ JOURNAL_ENTRY_BYTES;
}
