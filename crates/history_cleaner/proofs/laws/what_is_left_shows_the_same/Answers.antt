use Rattle.history_cleaner.proofs.Showing.{Laws, left_same, none_absent, left_seen, left_throughout}
use Rattle.history_cleaner.proofs.laws.what_is_left_shows_the_same.Goals as goal

pub returns : goal.returns
returns c =
    let laws : Laws = record {
      chain = c.chains_are_runs.ensures;
      old = c.a_kept_chain_has_old_moments.ensures;
      same = c.a_kept_chain_shows_the_same.ensures.same;
      none = c.a_kept_chain_shows_the_same.ensures.none;
      alive = c.a_kept_chain_is_seen_alive.ensures;
      seen = c.a_kept_chain_has_seen_inodes_alone.ensures;
    } in
    record { same = left_same laws; none = none_absent laws; seen = left_seen laws; throughout = left_throughout laws }
