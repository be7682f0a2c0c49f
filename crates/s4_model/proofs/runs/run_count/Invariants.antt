use Rattle.std.proofs.Common.{take}
use Rattle.s4_model.proofs.RunLemmas.{AreFirsts}
use Rattle.s4_model.proofs.runs.run_count.Given as goal

abbrev pub invariant-loop-span : goal.invariant-loop-span
invariant-loop-span l = AreFirsts l.floor l.list l.spans (take l.span-index l.spans) l.firsts.items
