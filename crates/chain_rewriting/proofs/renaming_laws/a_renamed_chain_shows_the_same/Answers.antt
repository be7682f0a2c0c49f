use Rattle.chain_rewriting.proofs.Meaning.{renamed_shows}
use Rattle.chain_rewriting.proofs.renaming_laws.a_renamed_chain_shows_the_same.Goals as goal

pub returns : goal.returns
returns c = renamed_shows c.a_mapped_chain_shows_the_same.ensures.chain
