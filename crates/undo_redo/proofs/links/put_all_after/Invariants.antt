use Rattle.std.proofs.Common.{◌≡◌, drop}
use Rattle.undo_redo.specs.Runs.{redone_all}
use Rattle.undo_redo.proofs.links.put_all_after.Given as goal

abbrev pub invariant-loop-entry : goal.invariant-loop-entry
invariant-loop-entry l = redone_all (drop l.entry-index l.entries) l.inode ≡ redone_all l.entries l.initial.inode
