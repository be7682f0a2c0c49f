use Rattle.std.specs.Prelude.{◌≡◌, string_bytes}
use Rattle.host_calls.specs.Replay.{replay}
use Rattle.host_calls.specs.Worlds.{AddsOnly}
use Rattle.kept_files.proofs.placing.set_aside.Given as goal

-- the file has its name still, the image's path has what it had, and a crash leaves nothing more but what the file has
abbrev pub invariant-loop-number : goal.invariant-loop-number
invariant-loop-number g l = record {
  stays : (replay (g.C.Calls.history l.calls)).named (string_bytes l.beside.path) ≡ (replay (g.C.Calls.history l.fn.calls)).named (string_bytes l.beside.path);
  image : (replay (g.C.Calls.history l.calls)).named (string_bytes l.claim.path) ≡ (replay (g.C.Calls.history l.fn.calls)).named (string_bytes l.claim.path);
  crash : AddsOnly g.C.Calls.was ((replay (g.C.Calls.history l.fn.calls)).named (string_bytes l.beside.path))
      (replay (g.C.Calls.history l.fn.calls)) (replay (g.C.Calls.history l.calls));
}
