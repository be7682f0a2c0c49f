use Rattle.segment_copier.proofs.Costly.{takes_the_move}
use Rattle.segment_copier.proofs.laws.emptying_takes_the_move.Goals as goal

pub returns : goal.returns
returns c = takes_the_move c.packing_keeps_the_rule.ensures.packed
