use Rattle.std.proofs.Common.{arith, ◌∙◌}
use Rattle.codec.specs.Fields.{many_at}
use Rattle.codec.specs.Entry.{entry_at_by}
use Rattle.codec.proofs.JournalLaws.{entries_few}
use Rattle.codec.proofs.Many.{many_go, many_stop, many_end}
use Rattle.codec.proofs.journal_reading.read_entries.Goals as goal

pub loop-preserved : goal.loop-preserved
loop-preserved c = record {
  so_far = rw c.push.ensures.items (many_go (entry_at_by c.args.version) c.loop.entries.items c.args.count c.loop.counter c.loop.rest.now c.in-Some.entry c.in-Some.after.now (many_at (entry_at_by c.args.version) c.args.count c.args.bytes.now) c.loop-test.true c.in-Some.ensures c.loop.invariant.so_far);
  few = c.loop.invariant.few;
  len = omega (arith, c.push.ensures.len, c.loop.invariant.len);
}

pub returns-in_default : goal.returns-in_default
returns-in_default c = entries_few c.args.version c.args.count c.args.bytes.now c.loop.invariant.few ∙ many_stop (entry_at_by c.args.version) c.loop.entries.items c.args.count c.loop.counter c.loop.rest.now (many_at (entry_at_by c.args.version) c.args.count c.args.bytes.now) c.loop-test.true c.in_default.ensures c.loop.invariant.so_far

pub returns : goal.returns
returns c = entries_few c.args.version c.args.count c.args.bytes.now c.loop.invariant.few ∙ many_end (entry_at_by c.args.version) c.loop.entries.items c.args.count c.loop.counter c.loop.rest.now (many_at (entry_at_by c.args.version) c.args.count c.args.bytes.now) c.loop-test.false c.loop.invariant.so_far
