use Rattle.std.proofs.Common.{arith}
use Rattle.segment_word.specs.Layout.{frame_at}
use Rattle.segment_word.proofs.BlockParts.{run_added}
use Rattle.segment_word.proofs.blocks.load_run.Goals as goal

pub returns-clause-bytes : goal.returns-clause-bytes
returns-clause-bytes c =
    let found = c.load_words-found.ensures.words in
    run_added (frame_at c.args.seat.now.me.0.frames c.args.frame).contents c.args.into.now.items _ c.load_words-found.result c.args.block c.args.index found.0 c.requires.inside.1 c.requires.index (omega arith) found.1 c.in_ok-append_words.ensures.bytes
