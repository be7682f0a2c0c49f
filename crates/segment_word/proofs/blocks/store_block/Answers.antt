use Rattle.std.proofs.Common.{◌∙◌, ◌*◌, arith, rules}
use Rattle.segment_word.specs.Layout.{block_words}
use Rattle.segment_word.proofs.BlockWords.{one_written, word_at, length-block_words}
use Rattle.segment_word.proofs.BlockBytes.{block_words-back}
use Rattle.segment_word.proofs.blocks.store_block.Goals as goal

pub loop-i-preserved : goal.loop-i-preserved
loop-i-preserved c =
    let v = c.loop-i.invariant in
    let t = one_written c.args.seat.now.me.0 c.args.frame (64 * c.args.block) c.loop-i.i _ (block_words c.args.bytes.now) c.requires.inside.0 (omega arith) (omega arith)
    (length-block_words c.args.bytes.now) (word_at c.args.bytes.now c.loop-i.i _ _ (omega arith) c.told-bytes (omega arith) c.read_u64-value.ensures) c.loop-i.seat.me.0 v.view c.store.ensures.whole in
    record { seat = search rules; view = c.store.ensures.view ∙ t.1; whole = λ _. t.0 }

pub returns-clause-back : goal.returns-clause-back
returns-clause-back c = block_words-back _ c.told-bytes c.fits-bytes
