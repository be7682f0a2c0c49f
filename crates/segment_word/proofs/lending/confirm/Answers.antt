use Rattle.std.proofs.Common.{◌∙◌, ap, subst, List, ◌++◌, append-nil}
use Rattle.segment_word.specs.Frames.{Frame, Pinned, View}
use Rattle.segment_word.specs.FrameRule.{AllAgree}
use Rattle.segment_word.specs.Steps.{joined_view, Sat}
use Rattle.segment_word.proofs.lending.confirm.Goals as goal

pub returns-clause-agree : goal.returns-clause-agree
returns-clause-agree c =
    let view = c.receive.ensures.view ∙ ap (joined_view c.args.drive.now.me.0) (ap (λ (m : Sat). m.0) c.hand-lent.ensures.other.1) in
    let frames = ap (λ (v : View). v.frames) view in
    let pins = ap (λ (v : View). v.pins) view ∙ ap (λ (l : List Pinned). c.args.seat.now.me.0.pins ++ l) c.requires.drive.unlent ∙ append-nil c.args.seat.now.me.0.pins in
    subst (λ (z : List Frame × List Pinned). AllAgree z.0 z.1) (λ t. (frames t, pins t)) c.look.ensures.view.agrees
