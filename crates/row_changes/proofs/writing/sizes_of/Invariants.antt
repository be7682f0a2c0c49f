use Rattle.std.proofs.Common.{◌≡◌, map, take}
use Rattle.codec.specs.Entry.{entry_length}
use Rattle.row_changes.proofs.writing.sizes_of.Given as goal

abbrev pub invariant-loop-entry : goal.invariant-loop-entry
invariant-loop-entry l = l.sizes.items ≡ map entry_length (take l.entry-index l.entries)
