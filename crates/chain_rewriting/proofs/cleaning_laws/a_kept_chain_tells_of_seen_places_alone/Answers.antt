use Rattle.chain_rewriting.proofs.SeenPlaces.{Laws, cleaned_tells, cleaned_shows_live}
use Rattle.chain_rewriting.proofs.cleaning_laws.a_kept_chain_tells_of_seen_places_alone.Goals as goal

pub returns : goal.returns
returns c =
    let laws : Laws = record {
      run = c.a_kept_chain_is_a_run.ensures;
      chain = c.a_kept_chain_is_a_chain.ensures;
      again = c.cleaning_again_changes_nothing.ensures;
      seen = c.a_kept_chain_has_seen_inodes_alone.ensures;
      places = c.a_kept_chain_points_to_old_places.ensures;
    } in
    record {
      places = cleaned_tells c.what_kept_chains_rest_on.ensures c.a_blank_inode_has_holes_alone.ensures.holes laws;
      live = cleaned_shows_live c.a_kept_chain_is_seen_alive.ensures c.a_kept_chain_shows_the_same.ensures.same;
    }
