use Rattle.row_changes.proofs.Recently.{kept_making}
use Rattle.row_changes.proofs.laws.a_row_keeps_the_making.Goals as goal

pub returns : goal.returns
returns c = kept_making c.entries_determine_a_run.ensures.making c.groups_part_at_a_moment.ensures.ascend c.groups_part_at_a_moment.ensures.before
