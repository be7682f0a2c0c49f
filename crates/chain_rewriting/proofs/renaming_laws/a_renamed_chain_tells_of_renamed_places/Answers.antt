use Rattle.chain_rewriting.specs.Apart.{Passes}
use Rattle.chain_rewriting.specs.Renaming.{renamed}
use Rattle.chain_rewriting.proofs.Told.{told_mapped, pointed_mapped}
use Rattle.chain_rewriting.proofs.Listed.{told_in_order}
use Rattle.chain_rewriting.proofs.renaming_laws.a_renamed_chain_tells_of_renamed_places.Goals as goal

pub returns-clause-order : goal.returns-clause-order
returns-clause-order c = λ r. told_in_order (renamed r)

pub returns-clause-told : goal.returns-clause-told
returns-clause-told c = λ was is r. told_mapped (Passes was) (Passes is) (renamed r)

pub returns-clause-pointed : goal.returns-clause-pointed
returns-clause-pointed c = λ r. pointed_mapped (renamed r)
