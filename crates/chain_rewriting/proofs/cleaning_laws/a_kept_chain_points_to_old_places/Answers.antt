use Rattle.chain_rewriting.proofs.Places.{cleaned_places}
use Rattle.chain_rewriting.proofs.cleaning_laws.a_kept_chain_points_to_old_places.Goals as goal

pub returns : goal.returns
returns c = cleaned_places c.what_kept_chains_rest_on.ensures c.the_entries_between_two_inodes.ensures.pointers
