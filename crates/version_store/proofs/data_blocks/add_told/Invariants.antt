use Rattle.std.proofs.Common.{◌≡◌, ◌++◌, take}
use Rattle.version_store.specs.Store.{sides_told}
use Rattle.version_store.proofs.data_blocks.add_told.Given as goal

abbrev pub invariant-loop-entry : goal.invariant-loop-entry
invariant-loop-entry l = l.pointers.items ≡ l.initial.pointers.items ++ sides_told (take l.entry-index l.entries)
