use Rattle.journal_chain.proofs.Rule.{packed_again}
use Rattle.journal_chain.proofs.packing.laws.one_packing_keeps_the_rule.Goals as goal

pub returns : goal.returns
returns c = packed_again
