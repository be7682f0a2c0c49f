use Rattle.std.proofs.Common.{arith, ◌∙◌}
use Rattle.codec.specs.Fields.{many_at}
use Rattle.codec.specs.Entry.{triple_at_by}
use Rattle.codec.proofs.EntryLaws.{triples_few}
use Rattle.codec.proofs.Many.{many_go, many_stop, many_end}
use Rattle.codec.proofs.entry_reading.read_triples.Goals as goal

pub loop-preserved : goal.loop-preserved
loop-preserved c = record {
  so_far = rw c.push.ensures.items (many_go (triple_at_by c.args.version) c.loop.triples.items c.args.count c.loop.counter c.loop.rest.now c.in-Some.triple c.in-Some.after.now (many_at (triple_at_by c.args.version) c.args.count c.args.bytes.now) c.loop-test.true c.in-Some.ensures c.loop.invariant.so_far);
  few = c.loop.invariant.few;
  len = omega (arith, c.push.ensures.len, c.loop.invariant.len);
}

pub returns-in_default : goal.returns-in_default
returns-in_default c = triples_few c.args.version c.args.count c.args.bytes.now c.loop.invariant.few ∙ many_stop (triple_at_by c.args.version) c.loop.triples.items c.args.count c.loop.counter c.loop.rest.now (many_at (triple_at_by c.args.version) c.args.count c.args.bytes.now) c.loop-test.true c.in_default.ensures c.loop.invariant.so_far

pub returns : goal.returns
returns c = triples_few c.args.version c.args.count c.args.bytes.now c.loop.invariant.few ∙ many_end (triple_at_by c.args.version) c.loop.triples.items c.args.count c.loop.counter c.loop.rest.now (many_at (triple_at_by c.args.version) c.args.count c.args.bytes.now) c.loop-test.false c.loop.invariant.so_far
