use Rattle.std.proofs.Common.{◌+◌, ◌-◌, ◌*◌, ◌/◌, ◌%◌, arith, refl}
use Rattle.segment_word.specs.Layout.{frame_at}
use Rattle.segment_word.proofs.BlockParts.{word_added}
use Rattle.segment_word.proofs.blocks.load_next.Goals as goal

pub returns-clause-bytes : goal.returns-clause-bytes
returns-clause-bytes c =
    let end = c.min-end.ensures in
    let below = c.requires.range in
    let found = c.look-word.ensures.view in
    let word = found.block c.args.frame (64 * c.args.block + c.args.at / 8) c.requires.inside.0 (omega (arith, below, c.requires.inside)) (omega arith) in
    word_added (frame_at c.args.seat.now.me.0.frames c.args.frame).contents c.args.into.now.items _ c.args.block c.args.at (c.args.at + (c.min-end.result - c.args.at % 8)) (c.args.at % 8) c.min-end.result c.look-word.result
    (found.whole c.args.frame c.requires.inside.0) c.requires.inside.1 (omega (arith, below)) refl (omega (arith, below, end)) (omega (arith, end)) refl word c.in_ok-append_word.ensures.bytes
