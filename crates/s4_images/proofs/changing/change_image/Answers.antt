use Rattle.std.proofs.lemmas.Result.{on_ok_weaker}
use Rattle.s4_images.proofs.changing.change_image.Goals as goal

pub returns-in-Ok-clause-changed : goal.returns-in-Ok-clause-changed
returns-in-Ok-clause-changed g c =
    on_ok_weaker c.change_claimed.result
    (λ done. record {
      drive = done.saves.changed.drive;
      told = record { image = c.in_ok-read.read; verified = c.in_ok-read.ensures.verified; opened = done.opened; parts = done.parts; named = done.saves.changed.named };
      later = done.saves.changed.holds.later;
      changes = done.saves.changed.holds.changes;
      bytes = done.saves.bytes;
      saved = done.saves.changed.holds.saved;
      kept = done.saves.kept;
    })
    c.change_claimed.ensures.changed
