use Rattle.std.proofs.Common.{◌≡◌, [], rules}
use Rattle.image_salvage.proofs.Seeing.{one_seen, next_is, lost_noted, all_lost}
use Rattle.image_salvage.proofs.frames.whole_frames.Goals as goal

pub loop-frame-preserved : goal.loop-frame-preserved
loop-frame-preserved c = record {
  seen = one_seen c.args.parts.now.frames c.loop-frame.number c.in-Some.frame c.next.new.self c.loop-frame.frame-iterator c.loop-frame.table c.see_frame.new.table c.loop-frame.invariant.seen c.in-Some.ensures.steps
      c.in_ok-see_frame.ensures.seen c.in_ok-see_frame.ensures.alone;
  lost = lost_noted c.args.parts.now.frames c.loop-frame.number c.in-Some.frame c.loop-frame.lost.items c.see_frame.new.lost.items c.loop-frame.invariant.lost
      (next_is c.args.parts.now.frames c.loop-frame.number c.in-Some.frame c.next.new.self c.loop-frame.frame-iterator c.loop-frame.table c.loop-frame.invariant.seen c.in-Some.ensures.steps) c.in_ok-see_frame.ensures.lost;
}

pub returns-clause-lost : goal.returns-clause-lost
returns-clause-lost c =
    let none : c.loop-frame.frame-iterator ≡ [] = search rules in
    all_lost c.args.parts.now.frames c.loop-frame.number c.loop-frame.frame-iterator c.loop-frame.table c.loop-frame.lost.items c.loop-frame.invariant.seen none c.loop-frame.invariant.lost
