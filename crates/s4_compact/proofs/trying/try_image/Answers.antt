use Rattle.std.proofs.lemmas.Result.{IfOk-weaker}
use Rattle.s4_images.proofs.Over.{over_opened}
use Rattle.s4_compact.proofs.trying.try_image.Goals as goal

pub returns : goal.returns
returns g c = record {
  leaves = IfOk-weaker c.try_opened.result _ _ (λ room done. over_opened _ _ _ _ c.in_ok-image.ensures.verified c.in_ok-opened.ensures.opened done) c.try_opened.ensures.leaves;
}
