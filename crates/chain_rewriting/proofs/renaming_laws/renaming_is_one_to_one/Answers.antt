use Rattle.chain_rewriting.proofs.Rules.{one_to_one, renamed_rules}
use Rattle.chain_rewriting.proofs.renaming_laws.renaming_is_one_to_one.Goals as goal

pub returns-clause-places : goal.returns-clause-places
returns-clause-places c = one_to_one

pub returns-clause-rules : goal.returns-clause-rules
returns-clause-rules c = renamed_rules
