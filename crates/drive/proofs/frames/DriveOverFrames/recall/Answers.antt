use Rattle.std.proofs.Common.{subst}
use Rattle.segment_word.specs.FrameRule.{AllRemembered}
use Rattle.drive.specs.Fields.{DriveFields}
use Rattle.drive.proofs.frames.DriveOverFrames.recall.Goals as goal

pub returns-clause-remembered : goal.returns-clause-remembered
returns-clause-remembered g c =
    let A : DriveFields → Type 0 = λ d. AllRemembered d.store.table.seat.frames c.args.memory.now.remembered in
    subst A c.self.view_is c.recall.ensures.remembered
