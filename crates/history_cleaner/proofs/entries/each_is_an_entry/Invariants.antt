use Rattle.history_cleaner.proofs.EachEntry.{AreRead}
use Rattle.history_cleaner.proofs.entries.each_is_an_entry.Given as goal

abbrev pub invariant-loop-entry : goal.invariant-loop-entry
invariant-loop-entry l = AreRead l.entries l.entry-index
