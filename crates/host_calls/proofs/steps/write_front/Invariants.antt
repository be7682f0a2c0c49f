use Rattle.std.proofs.Common.{◌≡◌, ◌≤◌, ℕ, List, length}
use Rattle.host_calls.specs.Replay.{replay}
use Rattle.host_calls.specs.Worlds.{IsAt, IsWriting}
use Rattle.host_calls.proofs.steps.write_front.Given as goal

-- so many bytes are written
abbrev pub invariant-loop : goal.invariant-loop
invariant-loop g l = record {
  within : l.done ≤ length l.bytes;
  writing : (path : List ℕ) → IsAt (replay (g.C.Calls.history l.fn.calls)) (g.C.Calls.number l.file) path
      → IsWriting (g.C.Calls.number l.file) l.done l.bytes path (replay (g.C.Calls.history l.fn.calls)) (replay (g.C.Calls.history l.calls));
  failed : (replay (g.C.Calls.history l.calls)).failed ≡ (replay (g.C.Calls.history l.fn.calls)).failed;
}
