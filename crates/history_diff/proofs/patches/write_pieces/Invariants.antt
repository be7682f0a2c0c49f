use Rattle.std.proofs.Common.{◌≡◌}
use Rattle.std.specs.List.{flat_map, range_with_len}
use Rattle.std.specs.Io.KnownBytes.{Appends}
use Rattle.history_diff.specs.Patches.{line_at}
use Rattle.history_diff.proofs.patches.write_pieces.Given as goal

-- the lines so far are written, and the writer hasn't failed since
abbrev pub invariant-loop-index : goal.invariant-loop-index
invariant-loop-index g l = record {
  failures : g.W.Sink.failures l.writer ≡ g.W.Sink.failures l.initial.writer;
  wrote : Appends (g.W.Sink.passed l.initial.writer) (g.W.Sink.passed l.writer) (flat_map (line_at l.side l.first l.bytes) (range_with_len 0 l.index));
}
