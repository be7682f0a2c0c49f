use Rattle.chain_rewriting.proofs.Grouped.{cleaned_old}
use Rattle.chain_rewriting.proofs.cleaning_laws.the_moments_of_a_kept_chain_are_old.Goals as goal

pub returns : goal.returns
returns c = cleaned_old c.a_kept_chain_has_old_moments.ensures
