use Rattle.block_log.proofs.Places.{one_place}
use Rattle.block_log.proofs.laws.one_place_has_one_name.Goals as goal

pub returns : goal.returns
returns c = one_place
