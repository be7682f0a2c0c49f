use Rattle.std.proofs.Common.{◌≡◌, ◌+◌, ◌*◌, ◌≤◌, ◌++◌, length}
use Rattle.s4_types.specs.declared.limits.TheConstants.{ENTRY_TRIPLES, OBJECT_BLOCKS}
use Rattle.undo_redo.specs.Sizes.{later_sizes}
use Rattle.undo_redo.proofs.sizes.push_later.Given as goal

abbrev pub invariant-loop-rest : goal.invariant-loop-rest
invariant-loop-rest l = record {
  room : ENTRY_TRIPLES * length l.sizes.items + l.rest ≤ OBJECT_BLOCKS;
  items : l.sizes.items ++ later_sizes l.rest l.rest ≡ l.initial.sizes.items ++ later_sizes l.triples l.triples;
}

abbrev pub decreases-loop-rest : goal.decreases-loop-rest
decreases-loop-rest l = l.rest
