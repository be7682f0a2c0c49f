use Rattle.std.proofs.Common.{◌≡◌, ◌++◌}
use Rattle.undo_redo.specs.Between.{entries_between}
use Rattle.undo_redo.proofs.composition.told_between.Given as goal

abbrev pub invariant-loop-entry : goal.invariant-loop-entry
invariant-loop-entry l = l.entries.items ++ l.entry-iterator ≡ entries_between l.before l.after l.fn.moment
