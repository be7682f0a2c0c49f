use Rattle.history_cleaner.proofs.Reached.{held_is_reached}
use Rattle.history_cleaner.proofs.laws.held_is_what_is_reached.Goals as goal

pub returns : goal.returns
returns c = held_is_reached c.what_is_held_is_what_rows_name.ensures.exact c.inodes_point_to_what_rows_name.ensures
