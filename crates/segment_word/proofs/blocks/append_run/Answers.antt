use Rattle.std.proofs.Common.{arith}
use Rattle.segment_word.proofs.BlockParts.{run_added}
use Rattle.segment_word.proofs.blocks.append_run.Goals as goal

pub returns-clause-bytes : goal.returns-clause-bytes
returns-clause-bytes c j p e is =
    let found = c.read_words-found.ensures.words j p e is in
    run_added p.contents c.args.into.now.items _ c.read_words-found.result c.args.block c.args.index found.0 c.requires.inside.2 c.requires.index (omega arith) found.1 c.in_ok-append_words.ensures.bytes
