use Rattle.std.proofs.Common.{arith}
use Rattle.segment_word.proofs.blocks.read_words.Goals as goal

pub returns-clause-words : goal.returns-clause-words
returns-clause-words c j p e is = let v = c.loop-i.invariant in (v.whole j p e is (omega arith), λ k h. v.done j p e is k (omega arith))
