use Rattle.std.proofs.Common.{◌≢◌, ℕ, List, vec_len}
use Rattle.std.specs.Prelude.{string_bytes}
use Rattle.std.specs.List.{All}
use Rattle.host_calls.specs.Replay.{replay}
use Rattle.kept_files.specs.Places.{IsAsBefore}
use Rattle.kept_files.proofs.folder.remove_left.Given as goal

-- The image's path is as it was, and so is each path that is none of those that were left, and so none of those that there still are.
abbrev pub invariant-loop-leftover : goal.invariant-loop-leftover
invariant-loop-leftover g l = record {
  image : IsAsBefore l.image (replay (g.C.Calls.history l.fn.calls)) (replay (g.C.Calls.history l.calls));
  others : (path : List ℕ) → All (λ one. path ≢ string_bytes one.path) l.fn.left.items
      → IsAsBefore path (replay (g.C.Calls.history l.fn.calls)) (replay (g.C.Calls.history l.calls));
  rest : (path : List ℕ) → All (λ one. path ≢ string_bytes one.path) l.fn.left.items → All (λ one. path ≢ string_bytes one.path) l.left.items;
}

-- the number of those that there still are
abbrev pub decreases-loop-leftover : goal.decreases-loop-leftover
decreases-loop-leftover g l = vec_len l.left
