use Rattle.image_parts.proofs.FrameLists.{passed_none, passed_one, passed_short, passed_all}
use Rattle.image_parts.proofs.frames.behind_frames.Goals as goal

pub loop-init : goal.loop-init
loop-init c = passed_none c.args.count c.args.bytes.now

pub loop-preserved : goal.loop-preserved
loop-preserved c = passed_one c.args.count c.loop.counter c.args.bytes.now c.loop.rest.now c.in-Some.behind.now c.loop-test.true c.loop.invariant c.in-Some.ensures.1 c.in-Some.ensures.2

pub returns-in_default : goal.returns-in_default
returns-in_default c = passed_short c.args.count c.loop.counter c.args.bytes.now c.loop.rest.now c.loop-test.true c.loop.invariant c.in_default.ensures

pub returns : goal.returns
returns c = passed_all c.args.count c.loop.counter c.args.bytes.now c.loop.rest.now c.loop-test.false c.loop.invariant
