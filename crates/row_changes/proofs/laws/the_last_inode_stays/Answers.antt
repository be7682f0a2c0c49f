use Rattle.row_changes.proofs.Recently.{last_stays}
use Rattle.row_changes.proofs.laws.the_last_inode_stays.Goals as goal

pub returns : goal.returns
returns c = last_stays c.entries_determine_a_run.ensures.since
