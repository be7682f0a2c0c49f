use Rattle.std.proofs.Common.{◌≡◌, ◌<◌, [], vec_len}
use Rattle.batch_serving.specs.Batches.{Goes}
use Rattle.batch_serving.specs.Saying.{HasSaid}
use Rattle.batch_serving.proofs.serving_batches.serve_batch.Given as goal

abbrev pub invariant-loop-end : goal.invariant-loop-end
invariant-loop-end g l = record {
  goes : Goes g.B.Backend.steps g.C.Clock.draws g.K.Keeping.waits [] l.frames
      l.fn.backend l.fn.clock l.fn.keeping (g.R.Source.remaining l.fn.reader) (g.W.Outlet.passed l.fn.writer)
      l.backend l.clock l.keeping (g.R.Source.remaining l.reader) (g.W.Outlet.passed l.writer);
  said : HasSaid g.B.Backend.steps g.C.Clock.draws (g.W.Outlet.begins l.writer) (g.W.Outlet.passed l.writer) [] l.backend l.clock;
  reading : g.R.Source.failures l.reader ≡ g.R.Source.failures l.fn.reader;
  writing : g.W.Outlet.failures l.writer ≡ g.W.Outlet.failures l.fn.writer;
  room : 0 < vec_len l.piece;
}

abbrev pub decreases-loop-end : goal.decreases-loop-end
decreases-loop-end g l = g.R.Source.turns l.reader
