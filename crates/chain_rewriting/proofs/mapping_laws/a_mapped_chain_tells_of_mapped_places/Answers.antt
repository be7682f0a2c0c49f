use Rattle.chain_rewriting.specs.Apart.{Passes}
use Rattle.chain_rewriting.proofs.Told.{told_mapped, pointed_mapped}
use Rattle.chain_rewriting.proofs.Listed.{told_in_order}
use Rattle.chain_rewriting.proofs.mapping_laws.a_mapped_chain_tells_of_mapped_places.Goals as goal

pub returns-clause-order : goal.returns-clause-order
returns-clause-order c = told_in_order

pub returns-clause-told : goal.returns-clause-told
returns-clause-told c = λ was is. told_mapped (Passes was) (Passes is)

pub returns-clause-pointed : goal.returns-clause-pointed
returns-clause-pointed c = pointed_mapped
