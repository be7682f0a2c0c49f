use Rattle.std.proofs.Common.{◌≡◌, take}
use Rattle.std.specs.List.{flat_map}
use Rattle.std.specs.Io.KnownBytes.{Appends}
use Rattle.history_report.specs.Flushes.{flush_parts}
use Rattle.history_report.specs.Page.{page_text}
use Rattle.history_report.proofs.flushes.write_each_flush.Given as goal

-- the rows so far have their paragraphs, and the writer hasn't failed since
abbrev pub invariant-loop-row : goal.invariant-loop-row
invariant-loop-row g l = record {
  failures : g.W.Sink.failures l.writer ≡ g.W.Sink.failures l.initial.writer;
  wrote : Appends (g.W.Sink.passed l.initial.writer) (g.W.Sink.passed l.writer) (page_text (flat_map (flush_parts l.style) (take l.row-index l.flushes)));
}
