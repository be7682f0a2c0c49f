use Rattle.std.proofs.Common.{arith}
use Rattle.image_commands.proofs.leftovers.add_spent.Goals as goal

pub loop-number-preserved : goal.loop-number-preserved
loop-number-preserved g c = record {
  left = c.in_ok-add_numbered.ensures.spent c.loop-number.invariant.left;
  all = λ image serves. c.in_ok-add_numbered.ensures.all image serves (c.loop-number.invariant.all image serves);
}

pub returns-clause-all : goal.returns-clause-all
returns-clause-all g c = λ image serves k below path there. c.loop-number.invariant.all image serves k (omega (arith, below)) path there
