use Rattle.segment_copier.proofs.Staying.{still_there}
use Rattle.segment_copier.proofs.laws.what_was_planned_is_still_there.Goals as goal

pub returns : goal.returns
returns c = still_there c.what_is_listed_is_held.ensures
