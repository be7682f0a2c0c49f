use Rattle.host_calls.specs.Replay.{replay}
use Rattle.host_calls.specs.Worlds.{ChangesOnly}
use Rattle.host_calls.proofs.steps.write_zeros.Given as goal

-- this file alone was changed
abbrev pub invariant-loop : goal.invariant-loop
invariant-loop g l = record {
  only : ChangesOnly (g.C.Calls.number l.file) (replay (g.C.Calls.history l.fn.calls)) (replay (g.C.Calls.history l.calls));
}
