use Rattle.std.proofs.Common.{arith}
use Rattle.codec.specs.Fields.{slot_at, many_at}
use Rattle.codec.proofs.Many.{many_go, many_stop, many_end}
use Rattle.codec.proofs.pointers.read_slots.Goals as goal

pub returns-in_default-clause-read : goal.returns-in_default-clause-read
returns-in_default-clause-read g c = many_stop slot_at c.loop.slots.items g.row.N c.loop.counter c.loop.rest.now (many_at slot_at g.row.N c.args.bytes.now) c.loop-test.true c.in_default.ensures c.loop.invariant.so_far

pub loop-preserved : goal.loop-preserved
loop-preserved g c = record {
  so_far = rw c.push.ensures.items (many_go slot_at c.loop.slots.items g.row.N c.loop.counter c.loop.rest.now c.in-Some.slot c.in-Some.after.now (many_at slot_at g.row.N c.args.bytes.now) c.loop-test.true c.in-Some.ensures c.loop.invariant.so_far);
  len = omega (arith, c.push.ensures.len, c.loop.invariant.len);
}

pub returns-clause-read : goal.returns-clause-read
returns-clause-read g c = many_end slot_at c.loop.slots.items g.row.N c.loop.counter c.loop.rest.now (many_at slot_at g.row.N c.args.bytes.now) c.loop-test.false c.loop.invariant.so_far
