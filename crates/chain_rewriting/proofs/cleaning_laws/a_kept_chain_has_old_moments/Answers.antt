use Rattle.chain_rewriting.proofs.Moments.{cleaned_within}
use Rattle.chain_rewriting.proofs.cleaning_laws.a_kept_chain_has_old_moments.Goals as goal

pub returns : goal.returns
returns c = cleaned_within c.the_entries_between_two_inodes.ensures.moments
