use Rattle.history_diff.proofs.Only.{differences_are_only}
use Rattle.history_diff.proofs.laws.differences_are_the_only_ones.Goals as goal

pub returns : goal.returns
returns c = differences_are_only
