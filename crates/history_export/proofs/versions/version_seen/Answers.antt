use Rattle.drive.specs.Fields.{state_in}
use Rattle.history_export.proofs.Seen.{if_refused}
use Rattle.history_export.proofs.versions.version_seen.Goals as goal

pub returns-clause-refused : goal.returns-clause-refused
returns-clause-refused g c = if_refused (state_in c.args.drive.now) c.args.object c.args.at c.version_at.result c.requires.visible c.version_at.ensures.refused
