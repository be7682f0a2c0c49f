use Rattle.std.proofs.Common.{arith}
use Rattle.journal_chain.proofs.Pushing.{few_needed}
use Rattle.journal_chain.proofs.Rule.{neighbours, few_blocks, few_packed, few_entries}
use Rattle.journal_chain.proofs.packing.laws.chains_are_short.Goals as goal

pub returns-clause-neighbours : goal.returns-clause-neighbours
returns-clause-neighbours c = neighbours

pub returns-clause-blocks : goal.returns-clause-blocks
returns-clause-blocks c = few_blocks

pub returns-clause-packed : goal.returns-clause-packed
returns-clause-packed c = few_packed

pub returns-clause-entries : goal.returns-clause-entries
returns-clause-entries c = λ entries le. (let least = few_entries c.entry_is_so_long.ensures.least entries in omega arith)

pub returns-clause-most : goal.returns-clause-most
returns-clause-most c = few_needed
