use Rattle.std.proofs.Common.{◌≡◌}
use Rattle.door_lines.specs.private.Scanning.{HasPassed}
use Rattle.door_lines.proofs.reader.DoorReader.next_line.Given as goal

abbrev pub invariant-loop-line : goal.invariant-loop-line
invariant-loop-line g l = record {
  passed : HasPassed l.fn.self l.self (g.S.PieceSource.pieces l.fn.source) (g.S.PieceSource.pieces l.source) l.line;
  failures : g.S.PieceSource.failures l.source ≡ g.S.PieceSource.failures l.fn.source;
}

abbrev pub decreases-loop-line : goal.decreases-loop-line
decreases-loop-line g l = g.S.PieceSource.turns l.source
