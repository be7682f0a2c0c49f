use Rattle.std.proofs.Common.{◌≡◌, ◌+◌, length, drop}
use Rattle.window.specs.Chunks.{flat}
use Rattle.window.proofs.chunks.count.Given as goal

abbrev pub invariant-loop-chunk : goal.invariant-loop-chunk
invariant-loop-chunk l = l.count + length (flat (drop l.chunk-index l.chunks)) ≡ length (flat l.chunks)
