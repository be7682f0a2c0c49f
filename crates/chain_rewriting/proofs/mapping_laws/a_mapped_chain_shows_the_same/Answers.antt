use Rattle.chain_rewriting.specs.Apart.{Passes}
use Rattle.chain_rewriting.proofs.Meaning.{means_the_same, shows_the_same}
use Rattle.chain_rewriting.proofs.mapping_laws.a_mapped_chain_shows_the_same.Goals as goal

pub returns-clause-inode : goal.returns-clause-inode
returns-clause-inode c = λ test. means_the_same c.only_its_blocks_matter.ensures c.ranges_join_and_part.ensures.equal (Passes test)

pub returns-clause-chain : goal.returns-clause-chain
returns-clause-chain c = λ test. shows_the_same c.only_its_blocks_matter.ensures c.ranges_join_and_part.ensures.equal (Passes test)
