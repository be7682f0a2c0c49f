use Rattle.time_read.proofs.Reading.{few_in_head}
use Rattle.time_read.proofs.laws.a_row_tells_a_chain.Goals as goal

pub returns-clause-newest : goal.returns-clause-newest
returns-clause-newest c = λ held o row r. few_in_head held o row c.packing_keeps_the_rule.ensures.packed r
