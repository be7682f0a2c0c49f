use Rattle.journal_chain.proofs.Rule.{packed_keeps, added_keeps}
use Rattle.journal_chain.proofs.packing.laws.packing_keeps_the_rule.Goals as goal

pub returns : goal.returns
returns c = record { packed = packed_keeps; added = added_keeps }
