use Rattle.std.proofs.Common.{subst}
use Rattle.segment_table.specs.Rules.{HasFramesInOrder}
use Rattle.drive.specs.Fields.{DriveFields}
use Rattle.drive.proofs.frames.DriveOverFrames.frame_rules.Goals as goal

pub returns : goal.returns
returns g c = subst (λ (d : DriveFields). HasFramesInOrder g.J.Naming.frames d.store.table) c.self.view_is c.frame_rules.ensures
