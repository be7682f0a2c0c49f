use Rattle.s4_model.proofs.StepLemmas.{step_of, IsPlain-Responds}
use Rattle.s4_model.proofs.plain.PlainDrive.request.Goals as goal

pub returns-clause-step : goal.returns-clause-step
returns-clause-step c = step_of c.args.self.now c.args.role c.args.request c.args.now c.respond.result c.respond.new.self c.respond.ensures

pub returns-clause-fits : goal.returns-clause-fits
returns-clause-fits c = (IsPlain-Responds c.args.self.now c.args.role c.args.request c.args.now c.respond.result c.respond.new.self c.respond.ensures).0

pub returns-clause-roomy : goal.returns-clause-roomy
returns-clause-roomy c = (IsPlain-Responds c.args.self.now c.args.role c.args.request c.args.now c.respond.result c.respond.new.self c.respond.ensures).1
