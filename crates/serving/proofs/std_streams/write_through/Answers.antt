use Rattle.std.proofs.Common.{rules}
use Rattle.serving.proofs.StreamLemmas.{took_more}
use Rattle.serving.proofs.std_streams.write_through.Goals as goal

pub loop-preserved : goal.loop-preserved
loop-preserved g c = record {
  within = search rules;
  taken = took_more (g.W.Write.contents c.args.writer.now) (g.W.Write.contents c.loop.writer) (g.W.Write.contents c.write_some.new.writer) c.args.bytes.now c.loop.count c.in-Some.more
      c.loop.invariant.taken c.in-Some.ensures.taken;
}
