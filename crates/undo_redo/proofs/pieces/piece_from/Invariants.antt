use Rattle.std.proofs.Common.{◌≡◌, ◌≤◌, ◌++◌, length}
use Rattle.s4_types.specs.declared.limits.TheConstants.{ENTRY_TRIPLES}
use Rattle.undo_redo.specs.private.Further.{triples_from}
use Rattle.undo_redo.proofs.pieces.piece_from.Given as goal

abbrev pub invariant-loop-index : goal.invariant-loop-index
invariant-loop-index l = record { items : l.triples.items ++ triples_from l.index l.before l.after ≡ triples_from l.from l.before l.after; room : length l.triples.items ≤ ENTRY_TRIPLES }
