use Rattle.std.proofs.Common.{◌≡◌}
use Rattle.serving.specs.Answering.{AnswersAll}
use Rattle.serving.proofs.serving.answer_all.Given as goal

abbrev pub invariant-loop-item : goal.invariant-loop-item
invariant-loop-item g l = record {
  answered : AnswersAll g.B.Backend.steps g.C.Clock.draws l.yielded l.fn.backend l.fn.clock (g.W.Sink.passed l.fn.writer)
      l.backend l.clock (g.W.Sink.passed l.writer);
  failures : g.W.Sink.failures l.writer ≡ g.W.Sink.failures l.fn.writer;
}
