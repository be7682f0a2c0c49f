use Rattle.std.proofs.Common.{ap, subst, List}
use Rattle.segment_word.specs.Frames.{Frame, Pinned}
use Rattle.segment_word.specs.FrameRule.{AllRemembered}
use Rattle.segment_word.specs.Handles.{Drive, Remembered}
use Rattle.segment_word.proofs.drive.DriveSeat.recall.Goals as goal

pub returns-clause-remembered : goal.returns-clause-remembered
returns-clause-remembered c =
    let frames = ap (λ (d : Drive). d.frames) c.self.view_is in
    let memories = ap (λ (m : Remembered). m.remembered) c.memory.view_is in
    subst (λ (z : List Frame × List Pinned). AllRemembered z.0 z.1) (λ t. (frames t, memories t)) c.recall.ensures.remembered
