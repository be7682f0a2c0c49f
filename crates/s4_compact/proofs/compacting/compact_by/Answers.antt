use Rattle.std.proofs.lemmas.Result.{on_ok_weaker}
use Rattle.s4_compact.proofs.compacting.compact_by.Goals as goal

pub returns-clause-compacts : goal.returns-clause-compacts
returns-clause-compacts g c = on_ok_weaker c.change_image.result
    (λ done. record {
      drive = done.drive;
      told = done.told;
      later = done.later;
      changes = record { way = c.args.way; pass = done.changes.trial.pass; compacts = done.changes.by };
      bytes = done.bytes;
      saved = done.saved;
      kept = done.kept;
    })
    c.change_image.ensures.changed
