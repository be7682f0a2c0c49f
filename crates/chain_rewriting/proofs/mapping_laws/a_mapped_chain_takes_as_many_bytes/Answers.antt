use Rattle.chain_rewriting.proofs.MappedOrdered.{lengths_mapped, bytes_mapped}
use Rattle.chain_rewriting.proofs.Kept.{rules_mapped}
use Rattle.chain_rewriting.proofs.mapping_laws.a_mapped_chain_takes_as_many_bytes.Goals as goal

pub returns-clause-each : goal.returns-clause-each
returns-clause-each c = lengths_mapped

pub returns-clause-all : goal.returns-clause-all
returns-clause-all c = bytes_mapped

pub returns-clause-checkpoint : goal.returns-clause-checkpoint
returns-clause-checkpoint c = rules_mapped
