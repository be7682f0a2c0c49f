use Rattle.block_log.proofs.Names.{nameless}
use Rattle.block_log.proofs.laws.what_is_not_held_has_no_name.Goals as goal

pub returns : goal.returns
returns c = nameless
