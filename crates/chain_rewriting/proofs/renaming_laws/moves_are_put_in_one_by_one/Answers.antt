use Rattle.chain_rewriting.proofs.RenamedGrowing.{nothing_moves, none_distinct, none_lead, still_distinct, leads_on}
use Rattle.chain_rewriting.proofs.renaming_laws.moves_are_put_in_one_by_one.Goals as goal

pub returns-clause-none : goal.returns-clause-none
returns-clause-none c = nothing_moves

pub returns-clause-none_distinct : goal.returns-clause-none_distinct
returns-clause-none_distinct c = none_distinct

pub returns-clause-none_alike : goal.returns-clause-none_alike
returns-clause-none_alike c = none_lead

pub returns-clause-distinct : goal.returns-clause-distinct
returns-clause-distinct c = still_distinct

pub returns-clause-alike : goal.returns-clause-alike
returns-clause-alike c = leads_on
