use Rattle.std.proofs.lemmas.Result.{on_ok_weaker}
use Rattle.s4_images.proofs.Over.{over_opened}
use Rattle.s4_folders.proofs.exporting.export_image.Goals as goal

pub returns : goal.returns
returns g c = record {
  exports = on_ok_weaker c.export_opened.result (λ done. over_opened _ _ _ _ c.in_ok-image.ensures.verified c.in_ok-opened.ensures.opened done) c.export_opened.ensures.exports;
}
