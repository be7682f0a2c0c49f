use Rattle.history_report.proofs.Safe.{pages_are_safe}
use Rattle.history_report.proofs.laws.data_stays_where_it_is.Goals as goal

pub returns : goal.returns
returns c = pages_are_safe
