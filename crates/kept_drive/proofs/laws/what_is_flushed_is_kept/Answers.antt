use Rattle.kept_drive.proofs.FlushedLemmas.{flushed_keeps, flushed_later}
use Rattle.kept_drive.proofs.laws.what_is_flushed_is_kept.Goals as goal

pub returns : goal.returns
returns c = record { kept = flushed_keeps; later = flushed_later }
