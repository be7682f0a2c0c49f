use Rattle.std.proofs.Common.{inr}
use Rattle.std.proofs.lemmas.Result.{IfOk-weaker, IfErr-weaker}
use Rattle.s4_images.proofs.Over.{over_opened}
use Rattle.restore_trials.proofs.surveys.survey_image.Goals as goal

pub returns : goal.returns
returns g c =
    let verified = c.in_ok-image.ensures.verified in
    let parts = c.in_ok-opened.ensures.opened in
    record {
      finds = IfOk-weaker c.survey_opened.result _ _ (λ found done. over_opened _ _ _ _ verified parts done) c.survey_opened.ensures.finds;
      serves = IfOk-weaker c.survey_opened.result _ _ (λ found done. over_opened _ _ _ _ verified parts done) c.survey_opened.ensures.serves;
      style = IfErr-weaker c.survey_opened.result _ _ (λ failure done. inr (over_opened _ _ _ _ verified parts done)) c.survey_opened.ensures.style;
      passed = c.survey_opened.ensures.passed;
      failures = c.survey_opened.ensures.failures;
    }
