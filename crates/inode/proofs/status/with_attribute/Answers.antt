use Rattle.inode.proofs.Standing.{tidy_as_before, with_attribute_means}
use Rattle.inode.proofs.status.with_attribute.Goals as goal

pub returns-clause-meaning : goal.returns-clause-meaning
returns-clause-meaning c = λ contents object. with_attribute_means contents c.args.inode.now c.args.attribute object c.args.moment

pub returns-clause-tidy : goal.returns-clause-tidy
returns-clause-tidy c = λ contents tidy. tidy_as_before contents c.args.inode.now c.args.inode.now.alive c.args.inode.now.created c.args.moment c.args.attribute tidy
