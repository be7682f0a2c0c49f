use Rattle.std.proofs.Common.{◌≡◌, Some, subst}
use Rattle.std.proofs.lemmas.Result.{err_from_is_err_and}
use Rattle.s4_types.specs.declared.requests.Request.TheVariants.{Control}
use Rattle.s4_model.specs.Refusals.{first_refusal}
use Rattle.drive.specs.Fields.{SessionFields, state_in, store_of}
use Rattle.drive.proofs.Storing.{refuses_checked}
use Rattle.drive.proofs.drive.Drive.control.Goals as goal

pub returns-in_err-check_role : goal.returns-in_err-check_role
returns-in_err-check_role g c =
    let p = err_from_is_err_and c.from_residual.result c.from_residual.ensures.1 in
    rw (p.1, p.2) (refuses_checked (store_of c.args.self.now) (first_refusal (state_in c.args.self.now) c.args.session.now.role (Control c.args.control)) c.args.self.now c.args.session.now (Control c.args.control) c.args.now _
    (subst (λ (x : SessionFields). first_refusal (state_in c.args.self.now) x.role (Control c.args.control) ≡ Some c.in_err-check_role.field-0.0) c.session.view_is (c.in_err-check_role.ensures.refused (state_in c.args.self.now) c.args.control)))
