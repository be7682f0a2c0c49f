use Rattle.window.proofs.Forgetting.{UpTo}
use Rattle.window.proofs.chunks.forget.Given as goal

abbrev pub invariant-loop-chunk : goal.invariant-loop-chunk
invariant-loop-chunk l = UpTo l.floor l.chunk-index l.fn.chunks.items l.chunk-items
