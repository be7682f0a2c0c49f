use Rattle.std.proofs.Common.{length, arith, ap, length-drop}
use Rattle.update_log.proofs.Laying.{laid_more}
use Rattle.update_log.proofs.sectors.lay_further.Goals as goal

pub loop-preserved : goal.loop-preserved
loop-preserved c = record {
  laid = laid_more c.args.count c.loop.counter c.loop.out.items c.push.new.self.items c.extend_from_slice.new.self.items c.loop.rest.now c.split_at.result.0.now c.split_at.result.1.now _
      c.loop-test.true c.in_ok-push.ensures.items c.in_ok-extend_from_slice.ensures.items c.split_at.ensures.front c.split_at.ensures.back c.loop.invariant.laid;
  room = omega (arith, c.loop-test.true, c.loop.invariant.room, ap length c.split_at.ensures.back, length-drop 511 c.loop.rest.now);
}
