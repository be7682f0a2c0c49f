use Rattle.chain_rewriting.proofs.Shown.{cleaned_shown}
use Rattle.chain_rewriting.proofs.cleaning_laws.a_kept_chain_shows_old_inodes.Goals as goal

pub returns : goal.returns
returns c = cleaned_shown c.what_kept_chains_rest_on.ensures
