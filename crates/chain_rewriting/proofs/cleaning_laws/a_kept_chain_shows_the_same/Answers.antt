use Rattle.chain_rewriting.proofs.Showing.{cleaned_alike, none_shows_dead}
use Rattle.chain_rewriting.proofs.cleaning_laws.a_kept_chain_shows_the_same.Goals as goal

pub returns : goal.returns
returns c = record { same = cleaned_alike c.what_kept_chains_rest_on.ensures; none = none_shows_dead c.what_kept_chains_rest_on.ensures }
