use Rattle.chain_rewriting.specs.Renaming.{renamed}
use Rattle.chain_rewriting.proofs.Mapped.{entries_by_mapped}
use Rattle.chain_rewriting.proofs.MappedOrdered.{groups_mapped, order_mapped}
use Rattle.chain_rewriting.proofs.renaming_laws.renamed_entries_stay_in_order.Goals as goal

pub returns-clause-groups : goal.returns-clause-groups
returns-clause-groups c = λ r. groups_mapped (renamed r)

pub returns-clause-order : goal.returns-clause-order
returns-clause-order c = λ r. order_mapped (renamed r)

pub returns-clause-by : goal.returns-clause-by
returns-clause-by c = λ r. entries_by_mapped (renamed r)
