use Rattle.history_cleaner.proofs.Reached.{Laws, left_tells, left_points, left_same}
use Rattle.history_cleaner.proofs.laws.what_is_left_tells_of_seen_places.Goals as goal

pub returns : goal.returns
returns c =
    let laws : Laws = record {
      chain = c.chains_are_runs.ensures;
      tells = c.a_kept_chain_tells_of_seen_places_alone.ensures.places;
      unchanged = c.an_unchanged_chain_is_the_kept_one.ensures;
    } in
    record { tells = left_tells laws; points = left_points laws; same = left_same laws }
