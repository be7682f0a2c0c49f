use Rattle.std.proofs.Common.{◌∙◌, List, ℕ, subst}
use Rattle.std.proofs.lemmas.Result.{IfOk-weaker}
use Rattle.image_salvage.specs.Salvaging.{IsSalvageOf}
use Rattle.s4_folders.proofs.salvaging.salvage_image.Goals as goal

pub returns : goal.returns
returns g c =
    let bytes = c.in_ok-bytes.bytes.items in
    let image = c.in_ok-image.image in
    let of : IsSalvageOf bytes image = subst (λ (l : List ℕ). IsSalvageOf l image) c.as_slice.ensures.value c.in_ok-image.ensures.salvaged in
    record {
      salvages = IfOk-weaker c.salvage_into.result _ _
          (λ verdict into. record {
            bytes = bytes;
            read = c.in_ok-bytes.ensures.bytes;
            image = image;
            of = of;
            folder = _;
            later = _;
            opened = c.in-Ok.ensures.opened;
            stays = c.salvage_into.ensures.path ∙ c.in-Ok.ensures.opened;
            into = into;
            whole = λ fine. c.what_is_whole_is_all.ensures bytes image _ of (into.whole fine);
          })
          c.salvage_into.ensures.salvages;
    }
