use Rattle.drive.proofs.Told.{attributes_answered, attributes_fit, attributes_judged}
use Rattle.drive.proofs.drive.Drive.get_attr.Goals as goal

pub returns-clause-fits : goal.returns-clause-fits
returns-clause-fits g c = attributes_fit c.read_at.result c.args.self.now c.args.object _ c.read_at.ensures.read

pub returns-clause-ok : goal.returns-clause-ok
returns-clause-ok g c = attributes_answered c.read_at.result c.args.self.now c.args.object c.args.at c.bytes_are_the_blocks_joined.ensures.count c.read_at.ensures.free c.read_at.ensures.read

pub returns-clause-refused : goal.returns-clause-refused
returns-clause-refused g c = attributes_judged c.read_at.result c.args.self.now c.args.object c.args.at c.read_at.ensures.refused
