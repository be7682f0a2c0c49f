use Rattle.std.proofs.Common.{◌≡◌, ◌++◌, drop}
use Rattle.window.specs.Chunks.{flat}
use Rattle.window.proofs.chunks.all_runs.Given as goal

abbrev pub invariant-loop-chunk : goal.invariant-loop-chunk
invariant-loop-chunk l = l.all.items ++ flat (drop l.chunk-index l.chunks) ≡ flat l.chunks
