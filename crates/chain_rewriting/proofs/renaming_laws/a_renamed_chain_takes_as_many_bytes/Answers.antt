use Rattle.chain_rewriting.specs.Renaming.{renamed}
use Rattle.chain_rewriting.proofs.MappedOrdered.{lengths_mapped, bytes_mapped}
use Rattle.chain_rewriting.proofs.renaming_laws.a_renamed_chain_takes_as_many_bytes.Goals as goal

pub returns-clause-each : goal.returns-clause-each
returns-clause-each c = λ r. lengths_mapped (renamed r)

pub returns-clause-all : goal.returns-clause-all
returns-clause-all c = λ r. bytes_mapped (renamed r)
