use Rattle.std.proofs.Common.{◌≡◌}
use Rattle.undo_redo.specs.Runs.{undone_all}
use Rattle.undo_redo.proofs.links.put_all_before.Given as goal

abbrev pub invariant-loop-entry : goal.invariant-loop-entry
invariant-loop-entry l = undone_all l.entry-iterator.iter.rest.now l.inode ≡ undone_all l.entries l.initial.inode
