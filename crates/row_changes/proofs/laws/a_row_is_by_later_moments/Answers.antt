use Rattle.row_changes.proofs.Recently.{by_later, same_by}
use Rattle.row_changes.proofs.laws.a_row_is_by_later_moments.Goals as goal

pub returns : goal.returns
returns c = record { later = by_later; journal = same_by }
