use Rattle.std.proofs.Common.{◌≡◌, length, subst, ◌∙◌, arith}
use Rattle.segment_table.specs.Table.{Table}
use Rattle.verifier.specs.SavedFrame.{AddsFrame}
use Rattle.verifier.proofs.SavedFrames.{one_added, all_added}
use Rattle.verifier.proofs.saved_frames.push_frames.Goals as goal

pub loop-frame-preserved : goal.loop-frame-preserved
loop-frame-preserved g c =
    let were = c.loop-frame.invariant in
    let table : Table = g.F.OverFrames.table c.args.frames.now in
    let one : AddsFrame table c.loop-frame.frame c.loop-frame.out.items c.push_saved.new.out.items =
    subst (λ (f : _). AddsFrame (g.F.OverFrames.table f) c.loop-frame.frame c.loop-frame.out.items c.push_saved.new.out.items) were.same c.in_ok-push_saved.ensures.frame in
    record { same = c.in_ok-push_saved.ensures.same ∙ were.same; added = one_added table c.loop-frame.frame c.args.out.now.items c.loop-frame.out.items c.push_saved.new.out.items were.added one }

pub returns-clause-frames : goal.returns-clause-frames
returns-clause-frames g c =
    let table : Table = g.F.OverFrames.table c.args.frames.now in
    let all : c.loop-frame.frame ≡ length table.seat.frames = omega (arith, c.loop-frame.auto.frame-end, c.frame_count-frame-end.ensures) in
    all_added table c.loop-frame.frame c.args.out.now.items c.loop-frame.out.items c.loop-frame.invariant.added all c.frame_rules.ensures.sizes.1 c.frame_rules.ensures.one_open
