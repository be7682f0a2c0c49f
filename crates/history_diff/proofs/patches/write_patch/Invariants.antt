use Rattle.std.proofs.Common.{◌≡◌, take}
use Rattle.std.specs.List.{flat_map}
use Rattle.std.specs.Io.KnownBytes.{Appends}
use Rattle.history_diff.specs.Patches.{range_lines}
use Rattle.history_diff.proofs.patches.write_patch.Given as goal

-- the ranges so far have their lines, and the writer hasn't failed since
abbrev pub invariant-loop-range : goal.invariant-loop-range
invariant-loop-range g l = record {
  failures : g.W.Sink.failures l.writer ≡ g.W.Sink.failures l.initial.writer;
  wrote : Appends (g.W.Sink.passed l.initial.writer) (g.W.Sink.passed l.writer) (flat_map (range_lines l.before l.after) (take l.range-index l.ranges));
}
