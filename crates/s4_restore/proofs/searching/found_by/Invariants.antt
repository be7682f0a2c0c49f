use Rattle.std.proofs.Common.{◌≡◌}
use Rattle.s4_restore.specs.Searching.{Knows}
use Rattle.s4_restore.proofs.searching.found_by.Given as goal

-- what is known so far, and nothing was written
abbrev pub invariant-loop : goal.invariant-loop
invariant-loop g l = record {
  knows : Knows (g.F.Files.contents l.trials.files.now l.trials.asked.now.image.now) l.trials.asked.now l.trials.stand_ins.now l.means l.search;
  passed : g.W.Sink.passed l.writer ≡ g.W.Sink.passed l.fn.writer;
  failures : g.W.Sink.failures l.writer ≡ g.W.Sink.failures l.fn.writer;
}
