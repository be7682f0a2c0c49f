use Rattle.std.proofs.Common.{◌≡◌, map, take}
use Rattle.codec.specs.Entry.{entry_length}
use Rattle.journal_chain.proofs.writing.sizes_of.Given as goal

abbrev pub invariant-loop-entry : goal.invariant-loop-entry
invariant-loop-entry g l = l.sizes.items ≡ map entry_length (take l.entry-index l.entries)
