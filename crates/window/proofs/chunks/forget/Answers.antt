use Rattle.std.proofs.Common.{◌≡◌, ◌+◌, List, length, sym, subst, arith}
use Rattle.window.specs.declared.chunks.Chunk.{Chunk}
use Rattle.window.specs.Chunks.{AllSifted}
use Rattle.window.proofs.Forgetting.{up_to_begin, up_to_dated, up_to_next, up_to_end, written}
use Rattle.window.proofs.chunks.forget.Goals as goal

pub loop-chunk-init : goal.loop-chunk-init
loop-chunk-init c = up_to_begin c.args.floor c.args.chunks.now.items c.deref_mut-chunk-items.result.now c.deref_mut-chunk-items.ensures.value

pub forget_in-requires : goal.forget_in-requires
forget_in-requires c = up_to_dated c.args.floor c.loop-chunk.chunk-index c.loop-chunk.chunk-index c.args.chunks.now.items c.loop-chunk.chunk-items c.chunk-item.result c.loop-chunk.invariant c.requires (omega arith) (omega arith)

pub loop-chunk-preserved : goal.loop-chunk-preserved
loop-chunk-preserved c =
    up_to_next c.args.floor c.loop-chunk.chunk-index (c.loop-chunk.chunk-index + 1) c.args.chunks.now.items c.loop-chunk.chunk-items c.chunk-item.result c.forget_in.new.chunk (omega arith) c.loop-chunk.invariant (omega arith) c.forget_in.ensures

pub returns : goal.returns
returns c =
    let size : length c.loop-chunk.chunk-items ≡ c.args.chunks.now.len = omega arith in
    subst (λ (xs : List Chunk). AllSifted c.args.floor c.args.chunks.now.items xs) (sym (written c.args.chunks.now.len c.loop-chunk.chunk-items c.args.chunks.now.items size))
    (up_to_end c.args.floor c.loop-chunk.chunk-index c.args.chunks.now.items c.loop-chunk.chunk-items c.loop-chunk.invariant (omega arith))
