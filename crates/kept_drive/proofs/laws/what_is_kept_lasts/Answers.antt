use Rattle.kept_drive.proofs.FlushedLemmas.{kept_by}
use Rattle.kept_drive.proofs.laws.what_is_kept_lasts.Goals as goal

pub returns : goal.returns
returns c = kept_by
