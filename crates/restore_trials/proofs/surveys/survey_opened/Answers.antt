use Rattle.std.proofs.Common.{◌∙◌, ap, sym}
use Rattle.std.proofs.lemmas.Result.{IfOk-weaker, IfErr-weaker}
use Rattle.segment_word.specs.AcceptViews.{begun}
use Rattle.verifier.specs.Opened.{IsNamedOf}
use Rattle.restore_trials.proofs.surveys.survey_opened.Goals as goal

pub returns : goal.returns
returns g c =
    let named : IsNamedOf c.args.opened c.named-drive.result = record { ledger = c.named-drive.ensures.ledger ∙ ap begun (sym c.requires.base); store = c.named-drive.ensures.store; audit = c.named-drive.ensures.audit } in
    record {
      finds = IfOk-weaker c.survey_in_style.result _ _ (λ found done. record { drive = c.named-drive.result; named = named; holds = done }) c.survey_in_style.ensures.finds;
      serves = IfOk-weaker c.survey_in_style.result _ _ (λ found done. record { drive = c.named-drive.result; named = named; holds = done }) c.survey_in_style.ensures.serves;
      style = IfErr-weaker c.survey_in_style.result _ _ (λ failure done. record { drive = c.named-drive.result; named = named; holds = done }) c.survey_in_style.ensures.style;
      passed = c.drive_opened.ensures.passed;
      failures = c.drive_opened.ensures.failures;
    }
