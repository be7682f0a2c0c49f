use Rattle.std.proofs.Common.{◌≡◌, drop}
use Rattle.undo_redo.specs.Redone.{with_before}
use Rattle.undo_redo.proofs.links.put_earlier_pointers.Given as goal

abbrev pub invariant-loop-triple : goal.invariant-loop-triple
invariant-loop-triple l = with_before (drop l.triple-index l.triples) l.pointers ≡ with_before l.triples l.initial.pointers
