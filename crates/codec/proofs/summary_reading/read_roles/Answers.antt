use Rattle.std.proofs.Common.{arith, ◌∙◌}
use Rattle.codec.specs.Fields.{many_at}
use Rattle.codec.specs.Summary.{role_at}
use Rattle.codec.proofs.SummaryLaws.{few_roles}
use Rattle.codec.proofs.Many.{many_go, many_stop, many_end}
use Rattle.codec.proofs.summary_reading.read_roles.Goals as goal

pub loop-preserved : goal.loop-preserved
loop-preserved c = record {
  so_far = rw c.push.ensures.items (many_go role_at c.loop.roles.items c.args.used c.loop.counter c.loop.rest.now c.in-Some.role c.in-Some.after.now (many_at role_at c.args.used c.args.bytes.now) c.loop-test.true c.in-Some.ensures c.loop.invariant.so_far);
  few = c.loop.invariant.few;
  len = omega (arith, c.push.ensures.len, c.loop.invariant.len);
}

pub returns-in_default : goal.returns-in_default
returns-in_default c = few_roles c.args.used c.args.bytes.now c.loop.invariant.few ∙ many_stop role_at c.loop.roles.items c.args.used c.loop.counter c.loop.rest.now (many_at role_at c.args.used c.args.bytes.now) c.loop-test.true c.in_default.ensures c.loop.invariant.so_far

pub returns : goal.returns
returns c = few_roles c.args.used c.args.bytes.now c.loop.invariant.few ∙ many_end role_at c.loop.roles.items c.args.used c.loop.counter c.loop.rest.now (many_at role_at c.args.used c.args.bytes.now) c.loop-test.false c.loop.invariant.so_far
