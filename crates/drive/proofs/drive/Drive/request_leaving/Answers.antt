use Rattle.s4_model.specs.Step.{judged}
use Rattle.version_store.specs.Costs.{short_of}
use Rattle.drive.specs.Fields.{history_of, store_of}
use Rattle.drive.proofs.Served.{lacked}
use Rattle.drive.proofs.drive.Drive.request_leaving.Goals as goal

pub returns-clause-memory : goal.returns-clause-memory
returns-clause-memory g c =
    lacked (short_of c.args.least (store_of c.args.self.now)) (judged (history_of c.args.self.now) c.args.request c.args.now) c.args.session.now.role c.serve.new.self c.args.request c.args.now c.serve.result c.serve.ensures.refused
