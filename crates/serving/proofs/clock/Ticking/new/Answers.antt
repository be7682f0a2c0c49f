use Rattle.std.proofs.Common.{arith, refl}
use Rattle.serving.proofs.ClockLemmas.{moments_from}
use Rattle.serving.proofs.clock.Ticking.new.Goals as goal

pub returns-clause-later : goal.returns-clause-later
returns-clause-later c = λ moments later drawn k lt. moments_from c.args.start c.args.tick moments _ later c.number.ensures (omega arith) refl drawn k lt
