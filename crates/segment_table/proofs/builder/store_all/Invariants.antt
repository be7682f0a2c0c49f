use Rattle.segment_table.specs.private.Storing.{AreStored}
use Rattle.segment_table.proofs.builder.store_all.Given as goal

abbrev pub invariant-loop-i : goal.invariant-loop-i
invariant-loop-i l = AreStored l.frame l.i l.blocks l.initial.words l.words
