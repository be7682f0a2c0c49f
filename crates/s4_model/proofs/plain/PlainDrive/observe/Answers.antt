use Rattle.std.proofs.Common.{arith}
use Rattle.s4_model.proofs.PlainLemmas.{AllKept-later}
use Rattle.s4_model.proofs.plain.PlainDrive.observe.Goals as goal

pub invariant_of-self : goal.invariant_of-self
invariant_of-self c = AllKept-later _ _ _ (omega arith) c.self.invariant
