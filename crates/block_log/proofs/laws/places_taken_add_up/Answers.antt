use Rattle.block_log.proofs.Taking.{adds_up}
use Rattle.block_log.proofs.laws.places_taken_add_up.Goals as goal

pub returns : goal.returns
returns c = adds_up
