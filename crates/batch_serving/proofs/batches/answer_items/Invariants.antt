use Rattle.std.proofs.Common.{◌≡◌}
use Rattle.batch_serving.specs.Saying.{HasSaid}
use Rattle.batch_serving.specs.private.Holding.{Holds}
use Rattle.batch_serving.proofs.batches.answer_items.Given as goal

abbrev pub invariant-loop-item : goal.invariant-loop-item
invariant-loop-item g l = record {
  held : Holds g.B.Backend.steps g.C.Clock.draws g.K.Keeping.waits l.yielded l.fn.backend l.fn.clock l.fn.keeping (g.W.Outlet.passed l.fn.writer)
      l.backend l.clock l.keeping (g.W.Outlet.passed l.writer) l.out.items;
  said : HasSaid g.B.Backend.steps g.C.Clock.draws (g.W.Outlet.begins l.writer) (g.W.Outlet.passed l.writer) l.out.items l.backend l.clock;
  failures : g.W.Outlet.failures l.writer ≡ g.W.Outlet.failures l.fn.writer;
}
