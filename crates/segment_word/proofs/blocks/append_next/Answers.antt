use Rattle.std.proofs.Common.{◌+◌, ◌-◌, ◌*◌, ◌/◌, ◌%◌, arith, refl}
use Rattle.segment_word.proofs.BlockParts.{word_added}
use Rattle.segment_word.proofs.blocks.append_next.Goals as goal

pub returns-clause-bytes : goal.returns-clause-bytes
returns-clause-bytes c i p e is =
    let end = c.min-end.ensures in
    let below = c.requires.range in
    let word = c.read-word.ensures.view.1 i p (64 * c.args.block + c.args.at / 8) e (omega (arith, below, c.requires.inside)) (omega (arith, is)) in
    word_added p.contents c.args.into.now.items _ c.args.block c.args.at (c.args.at + (c.min-end.result - c.args.at % 8)) (c.args.at % 8) c.min-end.result c.read-word.result
    word.1 c.requires.inside.2 (omega (arith, below)) refl (omega (arith, below, end)) (omega (arith, end)) refl word.0 c.in_ok-append_word.ensures.bytes
