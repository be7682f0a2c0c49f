use Rattle.std.proofs.Common.{◌+◌, ◌^◌, ◌<◌}
use Rattle.server.proofs.Stepping.{HasMoved}
use Rattle.server.proofs.moving.take_steps.Given as goal

-- steps were taken and counted, and not more than the loop has come round
abbrev pub invariant-loop-turn : goal.invariant-loop-turn
invariant-loop-turn g l = record {
  can_next : (goal.iterator-loop-turn g).can_next l._turn-iterator;
  finite : (goal.iterator-loop-turn g).is_finite l._turn-iterator;
  taken : HasMoved g.J.Naming.base l.session l.moves.planned l.moves.moved;
  planned : l.moves.planned + (goal.iterator-loop-turn g).remaining l._turn-iterator < 2 ^ 64;
  moved : l.moves.moved + (goal.iterator-loop-turn g).remaining l._turn-iterator < 2 ^ 64;
}
