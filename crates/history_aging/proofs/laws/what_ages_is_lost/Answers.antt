use Rattle.history_aging.proofs.Sees.{ages}
use Rattle.history_aging.proofs.laws.what_ages_is_lost.Goals as goal

pub returns : goal.returns
returns c = ages
