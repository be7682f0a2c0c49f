use Rattle.history_cleaner.proofs.laws.what_is_left_can_be_put.Goals as goal

pub returns : goal.returns
returns c = record {
  stands = c.what_is_left_can_stand.ensures.stands;
  empty = c.what_is_left_can_stand.ensures.empty;
  same = c.what_is_left_shows_the_same.ensures.same;
  none = c.what_is_left_shows_the_same.ensures.none;
  seen = c.what_is_left_shows_the_same.ensures.seen;
  throughout = c.what_is_left_shows_the_same.ensures.throughout;
  tells = c.what_is_left_tells_of_seen_places.ensures.tells;
  points = c.what_is_left_tells_of_seen_places.ensures.points;
  begins = c.what_is_left_tells_of_seen_places.ensures.same;
  reached = c.held_is_what_is_reached.ensures;
  exact = c.what_is_held_is_what_rows_name.ensures.exact;
  named = c.inodes_point_to_what_rows_name.ensures;
  present = c.clock_and_floor_never_fall.ensures.present;
}
