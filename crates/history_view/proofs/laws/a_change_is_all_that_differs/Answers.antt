use Rattle.history_view.proofs.Outside.{all_else_stays}
use Rattle.history_view.proofs.laws.a_change_is_all_that_differs.Goals as goal

pub returns-clause-blocks : goal.returns-clause-blocks
returns-clause-blocks c = all_else_stays
