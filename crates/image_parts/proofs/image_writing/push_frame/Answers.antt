use Rattle.std.proofs.Common.{ℕ, List, [], ◌++◌, ◌∙◌, ap, get_or, arith}
use Rattle.codec.proofs.Payload.{joined_more}
use Rattle.image_parts.proofs.image_writing.push_frame.Goals as goal

pub loop-block-preserved : goal.loop-block-preserved
loop-block-preserved c =
    let i = c.loop-block.block-index in
    let block = get_or c.args.blocks.now i [] in
    c.in_ok-extend_from_slice.ensures.items
    ∙ ap (λ (b : List ℕ). b ++ block) c.loop-block.invariant
    ∙ joined_more c.push_long.new.out.items c.args.blocks.now i (omega (arith, c.told-blocks, c.loop-block-test.true))
