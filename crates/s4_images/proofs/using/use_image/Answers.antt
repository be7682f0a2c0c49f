use Rattle.std.proofs.Common.{inr}
use Rattle.std.proofs.lemmas.Result.{IfOk-weaker, IfErr-weaker}
use Rattle.s4_images.proofs.Over.{over_opened}
use Rattle.s4_images.proofs.using.use_image.Goals as goal

pub returns : goal.returns
returns g c =
    let verified = c.in_ok-image.ensures.verified in
    let parts = c.in_ok-opened.ensures.opened in
    record {
      gives = IfOk-weaker c.use_opened.result _ _ (λ given done. over_opened _ _ _ _ verified parts done) c.use_opened.ensures.gives;
      fails = IfErr-weaker c.use_opened.result _ _ (λ failure done. inr (over_opened _ _ _ _ verified parts done)) c.use_opened.ensures.fails;
    }
