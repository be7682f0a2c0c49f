use Rattle.std.specs.Prelude.{string_bytes}
use Rattle.host_calls.specs.Replay.{replay}
use Rattle.kept_files.specs.Places.{IsAsBefore}
use Rattle.kept_files.proofs.making.new_beside.Given as goal

-- the image's path is as it was
abbrev pub invariant-loop-number : goal.invariant-loop-number
invariant-loop-number g l = record {
  image : IsAsBefore (string_bytes l.claim.path) (replay (g.C.Calls.history l.fn.calls)) (replay (g.C.Calls.history l.calls));
}
