use Rattle.serving.proofs.StreamLemmas.{AppendsPart-first}
use Rattle.serving.proofs.std_streams.WriteSinkSink.put.Goals as goal

pub returns-then-not-is_through-clause-err : goal.returns-then-not-is_through-clause-err
returns-then-not-is_through-clause-err g c =
    AppendsPart-first (g.W.Write.contents c.args.self.now.writer) (g.W.Write.contents c.write_through-is_through.new.writer) c.write_through-is_through.result.0 c.args.bytes.now c.write_through-is_through.ensures.taken
