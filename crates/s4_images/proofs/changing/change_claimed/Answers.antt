use Rattle.std.proofs.Common.{ℕ, List, subst}
use Rattle.std.proofs.lemmas.Result.{on_ok_weaker, on_err_weaker}
use Rattle.image_commands.specs.Files.{AreKnown}
use Rattle.s4_images.proofs.Kept.{kept_beside}
use Rattle.s4_images.proofs.changing.change_claimed.Goals as goal

pub returns-in-Ok : goal.returns-in-Ok
returns-in-Ok g c = record {
  changed = on_ok_weaker c.change_opened.result
      (λ done. record {
        opened = c.in_ok-opened.opened;
        parts = c.in_ok-opened.ensures.opened;
        saves = record {
          bytes = done.bytes;
          changed = done.changed;
          kept = subst (λ (path : List ℕ). AreKnown (g.F.Files.contents c.change_opened.new.files path) done.bytes) c.in-Ok.ensures.path done.kept;
        };
      })
      c.change_opened.ensures.changed;
  kept = on_err_weaker c.change_opened.result
      (λ kept. kept_beside (g.F.Files.contents c.args.files.now) (g.F.Files.contents c.beside.new.files) (g.F.Files.contents c.change_opened.new.files) (g.F.Files.is_beside c.in-Ok.place.beside)
      c.beside.ensures.others c.in-Ok.ensures.unknown kept)
      c.change_opened.ensures.kept;
}
