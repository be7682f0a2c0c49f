use Rattle.kept_drive.proofs.ClosedLemmas.{answered_lasts}
use Rattle.kept_drive.proofs.laws.what_was_answered_lasts.Goals as goal

pub returns : goal.returns
returns c = answered_lasts
