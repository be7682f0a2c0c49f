use Rattle.history_cleaner.proofs.Standing.{Laws, can_stand, stays_empty}
use Rattle.history_cleaner.proofs.laws.what_is_left_can_stand.Goals as goal

pub returns : goal.returns
returns c =
    let laws : Laws = record {
      chain = c.chains_are_runs.ensures;
      ascend = c.groups_part_at_a_moment.ensures.ascend;
      is_grouped = c.a_kept_chain_is_grouped.ensures;
      old = c.a_kept_chain_has_old_moments.ensures;
      moments = c.the_moments_of_a_kept_chain_are_old.ensures;
      order = c.a_kept_chain_is_in_order.ensures;
      shown = c.a_kept_chain_shows_old_inodes.ensures;
      places = c.a_kept_chain_points_to_old_places.ensures;
      points = c.inodes_point_to_what_rows_name.ensures;
      making = c.a_row_keeps_the_making.ensures;
      bytes = c.a_kept_chain_takes_no_more_bytes.ensures;
    } in
    record { stands = can_stand laws; empty = stays_empty }
