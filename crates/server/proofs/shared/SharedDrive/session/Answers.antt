use Rattle.server.proofs.Sharing.{shared_seated}
use Rattle.server.proofs.shared.SharedDrive.session.Goals as goal

pub returns-clause-session : goal.returns-clause-session
returns-clause-session g c =
    let had = c.session.ensures in
    shared_seated g.J.Naming.base c.args.role c.self.inside.drive c.session.new.self c.session.result c.rules.ensures.base had.same had.seen had.mine had.role
