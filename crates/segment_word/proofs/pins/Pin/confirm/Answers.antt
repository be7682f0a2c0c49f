use Rattle.std.proofs.Common.{ap, subst, List}
use Rattle.segment_word.specs.Frames.{Frame, Pinned}
use Rattle.segment_word.specs.FrameRule.{AllAgree}
use Rattle.segment_word.specs.Handles.{Drive, Held}
use Rattle.segment_word.proofs.pins.Pin.confirm.Goals as goal

pub returns-clause-agree : goal.returns-clause-agree
returns-clause-agree c =
    let frames = ap (λ (d : Drive). d.frames) c.drive.view_is in
    let pins = ap (λ (h : Held). h.pins) c.self.view_is in
    subst (λ (z : List Frame × List Pinned). AllAgree z.0 z.1) (λ t. (frames t, pins t)) c.confirm.ensures.agree
