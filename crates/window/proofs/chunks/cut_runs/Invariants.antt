use Rattle.std.proofs.Common.{◌≡◌, ◌++◌, map, drop}
use Rattle.window.specs.Runs.{cut}
use Rattle.window.specs.Chunks.{flat}
use Rattle.window.proofs.chunks.cut_runs.Given as goal

abbrev pub invariant-loop-chunk : goal.invariant-loop-chunk
invariant-loop-chunk l = l.all.items ++ map (cut l.floor) (flat (drop l.chunk-index l.chunks)) ≡ map (cut l.floor) (flat l.chunks)
