use Rattle.update_log.proofs.Singling.{one_log}
use Rattle.update_log.proofs.laws.a_file_is_one_log.Goals as goal

pub returns : goal.returns
returns c = one_log
