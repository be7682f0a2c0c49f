use Rattle.std.proofs.Common.{◌<◌, ◌∙◌, ap, sym, subst, refl, arith, List, length}
use Rattle.segment_word.specs.Frames.{Frame, View}
use Rattle.segment_word.specs.Layout.{frame_at}
use Rattle.segment_word.specs.FrameRule.{AllAgree}
use Rattle.segment_word.specs.Steps.{Sat, IsStateOf, GainsPin}
use Rattle.segment_word.proofs.HeldPins.{sealed_word, newest_pin}
use Rattle.segment_word.proofs.lending.pin.Goals as goal

pub gain-requires-clause-seen : goal.gain-requires-clause-seen
gain-requires-clause-seen c =
    let same = ap (λ (m : Sat). m.0.frames) c.loop.invariant.drive_view in
    let is : IsStateOf (frame_at c.args.drive.now.me.0.frames c.args.frame) c.look-seen.result =
    subst (λ (l : List Frame). IsStateOf (frame_at l c.args.frame) c.look-seen.result) same
    (c.look-seen.ensures.view.state c.args.frame (subst (λ (l : List Frame). c.args.frame < length l) (sym same) c.requires.inside) refl) in
    (sealed_word (frame_at c.args.drive.now.me.0.frames c.args.frame) c.look-seen.result c.requires.sealed is, omega arith)

pub returns-then-gain-clause-view : goal.returns-then-gain-clause-view
returns-then-gain-clause-view c =
    let same = ap (λ (m : Sat). m.0.frames) (c.look-seen.ensures.view.same ∙ c.loop.invariant.drive_view) in
    let agree : AllAgree c.args.drive.now.me.0.frames c.gain.new.seat.me.0.pins = subst (λ (l : List Frame). AllAgree l c.gain.new.seat.me.0.pins) same c.confirm.ensures.agree in
    let gained : GainsPin c.args.frame c.args.seat.now.me.0 c.gain.new.seat.me.0 = subst (λ (v : View). GainsPin c.args.frame v c.gain.new.seat.me.0) c.loop.invariant.view c.if-gain.ensures.view in
    ap (λ (m : Sat). m.0) c.confirm.ensures.seat.1 ∙ newest_pin c.args.drive.now.me.0.frames c.args.frame c.args.seat.now.me.0 c.gain.new.seat.me.0 gained agree
