use Rattle.std.proofs.Common.{◌≡◌, ◌++◌, take}
use Rattle.version_store.specs.Store.{sides_of}
use Rattle.version_store.proofs.data_blocks.add_sides.Given as goal

abbrev pub invariant-loop-triple : goal.invariant-loop-triple
invariant-loop-triple l = l.pointers.items ≡ l.initial.pointers.items ++ sides_of (take l.triple-index l.triple-items)
