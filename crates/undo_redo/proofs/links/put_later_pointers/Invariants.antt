use Rattle.std.proofs.Common.{◌≡◌, drop}
use Rattle.undo_redo.specs.Redone.{with_after}
use Rattle.undo_redo.proofs.links.put_later_pointers.Given as goal

abbrev pub invariant-loop-triple : goal.invariant-loop-triple
invariant-loop-triple l = with_after (drop l.triple-index l.triples) l.pointers ≡ with_after l.triples l.initial.pointers
