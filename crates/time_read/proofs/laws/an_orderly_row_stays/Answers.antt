use Rattle.time_read.proofs.Ordering.{same_orderly, stamped_orderly, orderly_later}
use Rattle.time_read.proofs.laws.an_orderly_row_stays.Goals as goal

pub returns : goal.returns
returns c = record { blocks = same_orderly; stamp = stamped_orderly; later = orderly_later }
