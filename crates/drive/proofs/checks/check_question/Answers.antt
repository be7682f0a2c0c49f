use Rattle.std.proofs.Common.{◌≡◌, subst, sym}
use Rattle.std.proofs.lemmas.Result.{on_ok_weaker}
use Rattle.std.specs.Result.{OnOk}
use Rattle.s4_types.specs.declared.requests.Question.{Question}
use Rattle.s4_types.specs.declared.requests.Request.TheVariants.{Query}
use Rattle.s4_model.specs.State.{State}
use Rattle.s4_model.specs.Refusals.{first_refusal}
use Rattle.drive.specs.Later.{later_refusal}
use Rattle.drive.proofs.checks.check_question.Goals as goal

pub returns-in-Audit-clause-ok : goal.returns-in-Audit-clause-ok
returns-in-Audit-clause-ok c =
    subst (λ (question : Question). OnOk c.check_audit.result ((s : State) → first_refusal s c.args.role (Query question) ≡ later_refusal s (Query question))) (sym c.in-Audit.is)
    (on_ok_weaker c.check_audit.result (λ all s. all s c.in-Audit.from) c.check_audit.ensures.ok)
