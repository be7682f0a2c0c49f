use Rattle.std.proofs.Common.{◌≡◌, ◌+◌, ◌-◌, ◌∙◌, ◌++◌, List, ℕ, ap, sym, length, vec_len, arith, refl}
use Rattle.segment_word.specs.Layout.{frame_at, block_bytes}
use Rattle.segment_word.proofs.BlockParts.{filled, all_added}
use Rattle.segment_word.proofs.blocks.load_whole.Goals as goal

pub returns-clause-bytes : goal.returns-clause-bytes
returns-clause-bytes c =
    let contents : List ℕ = (frame_at c.args.seat.now.me.0.frames c.args.frame).contents in
    let size : ℕ = c.len-start.result + 512 in
    let full : length (block_bytes contents c.args.block) ≡ 512 = ap length (sym c.load_into.ensures.bytes) ∙ c.load_into.ensures.full in
    all_added (block_bytes contents c.args.block) c.args.into.now.items _ full
    (filled c.args.into.now.items c.deref_mut.result.now c.load_into.new.bytes _ _ c.len-start.result size c.resize.new.self.len (size - vec_len c.args.into.now) (omega (arith, c.len-start.ensures, c.args.into.now.ok.0)) refl c.in_ok-resize.ensures.len
    (c.deref_mut.ensures.value ∙ c.in_ok-resize.ensures.items) c.load_into.ensures.full
    ∙ ap (λ (l : List ℕ). c.args.into.now.items ++ l) c.load_into.ensures.bytes)
