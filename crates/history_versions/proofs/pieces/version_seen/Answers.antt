use Rattle.drive.specs.Fields.{state_in}
use Rattle.history_versions.proofs.Refused.{short_refusal}
use Rattle.history_versions.proofs.pieces.version_seen.Goals as goal

pub returns-in-Err-clause-refusal : goal.returns-in-Err-clause-refusal
returns-in-Err-clause-refusal g c = short_refusal (state_in c.args.drive.now) c.args.object c.args.at c.in-Err.refusal c.requires.visible c.in-Err.ensures.refused
