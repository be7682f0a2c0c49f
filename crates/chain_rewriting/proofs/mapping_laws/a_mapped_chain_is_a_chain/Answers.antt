use Rattle.chain_rewriting.specs.Apart.{Passes}
use Rattle.chain_rewriting.proofs.Rules.{all_rules}
use Rattle.chain_rewriting.proofs.MappedOrdered.{chain_mapped}
use Rattle.chain_rewriting.proofs.mapping_laws.a_mapped_chain_is_a_chain.Goals as goal

pub returns-clause-rules : goal.returns-clause-rules
returns-clause-rules c = λ test. all_rules (Passes test)

pub returns-clause-chain : goal.returns-clause-chain
returns-clause-chain c = λ test. chain_mapped (Passes test)
