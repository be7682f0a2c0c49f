use Rattle.std.proofs.Common.{◌≡◌, take}
use Rattle.std.specs.List.{flat_map}
use Rattle.std.specs.Io.KnownBytes.{Appends}
use Rattle.s4_images.proofs.printing.write_lines.Given as goal

-- those so far have their lines, and the writer hasn't failed since
abbrev pub invariant-loop-one : goal.invariant-loop-one
invariant-loop-one g l = record {
  failures : g.W.Sink.failures l.writer ≡ g.W.Sink.failures l.initial.writer;
  wrote : Appends (g.W.Sink.passed l.initial.writer) (g.W.Sink.passed l.writer) (flat_map (g.P.Prints.line l.form) (take l.one-index l.all));
}
