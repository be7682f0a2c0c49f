use Rattle.kept_drive.proofs.FlushedLemmas.{covered}
use Rattle.kept_drive.proofs.laws.what_is_covered_is_kept.Goals as goal

pub returns : goal.returns
returns c = covered
