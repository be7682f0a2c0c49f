use Rattle.chain_rewriting.specs.Renaming.{renamed}
use Rattle.chain_rewriting.proofs.MappedOrdered.{moments_mapped, within_mapped, moment_of_old}
use Rattle.chain_rewriting.proofs.renaming_laws.renamed_entries_keep_their_moments.Goals as goal

pub returns-clause-moments : goal.returns-clause-moments
returns-clause-moments c = λ r. moments_mapped (renamed r)

pub returns-clause-within : goal.returns-clause-within
returns-clause-within c = λ r. within_mapped (renamed r)

pub returns-clause-old : goal.returns-clause-old
returns-clause-old c = λ r. moment_of_old (renamed r)
