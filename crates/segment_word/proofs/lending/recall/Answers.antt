use Rattle.std.proofs.Common.{◌∙◌, ap, subst, List, ◌++◌}
use Rattle.atomic_table.proofs.Lists.{at_longer}
use Rattle.segment_word.specs.Frames.{Frame, Pinned, View}
use Rattle.segment_word.specs.FrameRule.{AllRemembered}
use Rattle.segment_word.specs.Steps.{joined_view, Sat}
use Rattle.segment_word.proofs.lending.recall.Goals as goal

-- The list that the drive's seat has now begins with what the memory remembers.
pub returns-clause-remembered : goal.returns-clause-remembered
returns-clause-remembered c i p e =
    let view = c.receive.ensures.view ∙ ap (joined_view c.args.seat.now.me.0) (ap (λ (m : Sat). m.0) c.remember-told.ensures.other.1) in
    let frames = ap (λ (v : View). v.frames) view in
    let known = ap (λ (v : View). v.remembered) view in
    let all = subst (λ (z : List Frame × List Pinned). AllRemembered z.0 z.1) (λ t. (frames t, known t)) c.look.ensures.view.remembered in
    let its : List Pinned = c.args.memory.now.me.0.remembered in
    all i p (at_longer (its ++ c.args.memory.now.me.0.pins) c.args.seat.now.me.0.remembered i p (at_longer its c.args.memory.now.me.0.pins i p e))
