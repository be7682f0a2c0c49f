use Rattle.history_diff.proofs.Apart.{ranges_are_only}
use Rattle.history_diff.proofs.laws.ranges_are_the_only_ones.Goals as goal

pub returns : goal.returns
returns c = ranges_are_only
