use Rattle.kept_drive.proofs.Fronts.{in_both}
use Rattle.kept_drive.proofs.laws.what_was_seen_is_kept.Goals as goal

pub returns : goal.returns
returns c = in_both
