use Rattle.std.proofs.Common.{rules, ◌∙◌, ap, flat_map}
use Rattle.byteorder.specs.Endian.{big_bytes}
use Rattle.segment_word.proofs.BlockWords.{are_words}
use Rattle.segment_word.proofs.BlockBytes.{block_words-back}
use Rattle.segment_word.proofs.blocks.words_of.Goals as goal

pub returns-clause-words : goal.returns-clause-words
returns-clause-words c = are_words _ _ (search rules) c.read_u64_into.ensures

pub returns-clause-back : goal.returns-clause-back
returns-clause-back c = ap (flat_map (big_bytes 8)) (are_words _ c.args.bytes.now (search rules) c.read_u64_into.ensures) ∙ block_words-back _ c.told-bytes c.fits-bytes
