use Rattle.chain_rewriting.proofs.Lives.{cleaned_lives}
use Rattle.chain_rewriting.proofs.cleaning_laws.a_kept_chain_is_seen_alive.Goals as goal

pub returns : goal.returns
returns c = cleaned_lives c.what_kept_chains_rest_on.ensures
