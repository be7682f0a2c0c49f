use Rattle.std.proofs.lemmas.Result.{err_from_is_err_and}
use Rattle.s4_types.specs.declared.requests.Request.TheVariants.{Update}
use Rattle.s4_model.specs.Refusals.{first_refusal}
use Rattle.version_store.specs.Costs.{short_of}
use Rattle.drive.specs.Fields.{state_in, store_of}
use Rattle.drive.proofs.Storing.{refuses_checked}
use Rattle.drive.proofs.drive.Drive.update.Goals as goal

pub returns-in_err-check_update : goal.returns-in_err-check_update
returns-in_err-check_update g c =
    let p = err_from_is_err_and c.from_residual.result c.from_residual.ensures.1 in
    rw (p.1, p.2) (refuses_checked (short_of c.args.least (store_of c.args.self.now)) (first_refusal (state_in c.args.self.now) c.args.session.now.role (Update c.args.update)) c.args.self.now c.args.session.now (Update c.args.update) c.args.now _
    (c.in_err-check_update.ensures.refused (state_in c.args.self.now) c.args.session.now.role))
