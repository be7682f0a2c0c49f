use Rattle.std.proofs.Common.{◌+◌, ◌^◌, ◌<◌}
use Rattle.s4serve.proofs.doors.watch.Given as goal

-- the source hasn't failed
abbrev pub invariant-loop-turn : goal.invariant-loop-turn
invariant-loop-turn g l = record {
  can_next : (goal.iterator-loop-turn g).can_next l._turn-iterator;
  finite : (goal.iterator-loop-turn g).is_finite l._turn-iterator;
  failures : g.S.PieceSource.failures l.lines.source + 1 < 2 ^ 64;
}
