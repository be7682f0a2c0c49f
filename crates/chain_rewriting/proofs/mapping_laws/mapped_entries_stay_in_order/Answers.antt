use Rattle.chain_rewriting.proofs.Mapped.{entries_by_mapped}
use Rattle.chain_rewriting.proofs.MappedOrdered.{moments_mapped, within_mapped, moment_of_old, groups_mapped, order_mapped}
use Rattle.chain_rewriting.proofs.mapping_laws.mapped_entries_stay_in_order.Goals as goal

pub returns-clause-moments : goal.returns-clause-moments
returns-clause-moments c = moments_mapped

pub returns-clause-within : goal.returns-clause-within
returns-clause-within c = within_mapped

pub returns-clause-old : goal.returns-clause-old
returns-clause-old c = moment_of_old

pub returns-clause-groups : goal.returns-clause-groups
returns-clause-groups c = groups_mapped

pub returns-clause-order : goal.returns-clause-order
returns-clause-order c = order_mapped

pub returns-clause-by : goal.returns-clause-by
returns-clause-by c = entries_by_mapped
