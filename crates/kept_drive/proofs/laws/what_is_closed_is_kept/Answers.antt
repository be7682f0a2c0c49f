use Rattle.kept_drive.proofs.ClosedLemmas.{closed_keeps, own_clock}
use Rattle.kept_drive.proofs.laws.what_is_closed_is_kept.Goals as goal

pub returns : goal.returns
returns c = record { kept = closed_keeps; own = own_clock }
