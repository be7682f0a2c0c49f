use Rattle.drive.proofs.Told.{planned_reply, planned_version, unplanned_version}
use Rattle.drive.proofs.drive.Drive.planned.Goals as goal

pub returns-clause-bytes : goal.returns-clause-bytes
returns-clause-bytes g c = planned_reply c.read_at.result c.args.self.now c.read_at.new.self c.args.object c.args.offset c.args.length c.args.at c.read_at.ensures.store c.read_at.ensures.read

pub returns-clause-plan : goal.returns-clause-plan
returns-clause-plan g c = planned_version c.read_at.result c.args.self.now c.read_at.new.self c.args.object c.args.offset c.args.length c.args.at c.read_at.ensures.ledger c.read_at.ensures.store c.read_at.ensures.read

pub returns-clause-refused : goal.returns-clause-refused
returns-clause-refused g c = unplanned_version c.read_at.result c.args.self.now c.read_at.new.self c.args.object c.args.offset c.args.length c.args.at c.read_at.ensures.ledger c.read_at.ensures.store c.read_at.ensures.refused
