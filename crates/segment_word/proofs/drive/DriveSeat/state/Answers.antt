use Rattle.std.proofs.Common.{◌<◌, ap, sym, subst, refl, List, length}
use Rattle.segment_word.specs.Frames.{Frame}
use Rattle.segment_word.specs.Handles.{Drive}
use Rattle.segment_word.specs.Layout.{frame_at}
use Rattle.segment_word.specs.Steps.{IsStateOf}
use Rattle.segment_word.proofs.drive.DriveSeat.state.Goals as goal

pub returns-clause-word : goal.returns-clause-word
returns-clause-word c =
    let same = ap (λ (d : Drive). d.frames) c.self.view_is in
    subst (λ (l : List Frame). IsStateOf (frame_at l c.args.frame) c.look.result) same
    (c.look.ensures.view.state c.args.frame (subst (λ (l : List Frame). c.args.frame < length l) (sym same) c.requires) refl)
