use Rattle.std.proofs.Common.{◌≡◌}
use Rattle.undo_redo.specs.Runs.{undone_all, entries_by}
use Rattle.image_objects.proofs.inodes.undo_by.Given as goal

abbrev pub invariant-loop-entry : goal.invariant-loop-entry
invariant-loop-entry l = undone_all (entries_by l.fn.at l.entry-iterator.iter.rest.now) l.inode ≡ undone_all (entries_by l.fn.at l.entries) l.initial.inode
