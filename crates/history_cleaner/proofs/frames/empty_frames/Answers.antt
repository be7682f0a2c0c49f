use Rattle.std.proofs.Common.{ap, ◌∙◌}
use Rattle.drive.specs.Fields.{DriveFields}
use Rattle.history_cleaner.proofs.Rising.{counted_since}
use Rattle.history_cleaner.proofs.frames.empty_frames.Goals as goal

pub returns-clause-released : goal.returns-clause-released
returns-clause-released g c =
    counted_since c.args.drive.now.store.table.seat c.vacate.new.drive.store.table.seat c.count_risen.new.drive.store.table.seat c.as_slice.result.now c.count_risen.result
    (c.as_slice.ensures.value ∙ c.note_generations-before.ensures.noted) c.count_risen.ensures.risen (ap (λ (d : DriveFields). d.store.table.seat) c.count_risen.ensures.same)
