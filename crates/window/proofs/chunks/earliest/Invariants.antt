use Rattle.std.proofs.Common.{◌≡◌, ◌≤◌, ◌-◌, ◌^◌, min, drop}
use Rattle.window.specs.Chunks.{told}
use Rattle.window.proofs.chunks.earliest.Given as goal

abbrev pub invariant-loop-chunk : goal.invariant-loop-chunk
invariant-loop-chunk l = (min l.end (told (drop l.chunk-index l.chunks)) ≡ told l.chunks) × (l.end ≤ 2 ^ 64 - 1)
