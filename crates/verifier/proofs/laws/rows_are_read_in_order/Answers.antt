use Rattle.verifier.proofs.SpelledRows.{only_more, listed, rows_push}
use Rattle.verifier.proofs.laws.rows_are_read_in_order.Goals as goal

pub returns-clause-next : goal.returns-clause-next
returns-clause-next c = rows_push

pub returns-clause-only : goal.returns-clause-only
returns-clause-only c = only_more

pub returns-clause-listed : goal.returns-clause-listed
returns-clause-listed c = listed
