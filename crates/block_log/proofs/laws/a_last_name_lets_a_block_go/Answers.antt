use Rattle.block_log.proofs.Names.{last_gone, no_more_names}
use Rattle.block_log.proofs.laws.a_last_name_lets_a_block_go.Goals as goal

pub returns : goal.returns
returns c = record { held = last_gone; named = no_more_names }
