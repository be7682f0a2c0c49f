use Rattle.std.proofs.Common.{◌≡◌, ◌≤◌, take}
use Rattle.codec.specs.Entry.{entries_length_by}
use Rattle.codec.specs.Versions.{chain_entry_bytes_by}
use Rattle.image_objects.proofs.chains.bytes_of.Given as goal

abbrev pub invariant-loop-entry : goal.invariant-loop-entry
invariant-loop-entry l = record {
  exact : l.bytes ≡ entries_length_by l.version (take l.entry-index l.entries);
  few : l.bytes ≤ chain_entry_bytes_by l.version;
  most : l.most ≡ chain_entry_bytes_by l.version;
}
