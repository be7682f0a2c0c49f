use Rattle.std.proofs.Common.{arith}
use Rattle.segment_word.proofs.blocks.load_words.Goals as goal

pub returns-clause-words : goal.returns-clause-words
returns-clause-words c = let v = c.loop-i.invariant in (v.whole (omega arith), λ k h. v.done k (omega arith))
