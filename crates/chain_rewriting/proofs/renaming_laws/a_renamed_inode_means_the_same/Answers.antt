use Rattle.chain_rewriting.proofs.Meaning.{renamed_means}
use Rattle.chain_rewriting.proofs.renaming_laws.a_renamed_inode_means_the_same.Goals as goal

pub returns : goal.returns
returns c = renamed_means c.a_mapped_chain_shows_the_same.ensures.inode
