-- What the saved word of a frame says of its phase.
use Rattle.std.proofs.Common.{◌≡◌, ℕ, ◌<◌, ◌%◌, arith}
use Rattle.segment_word.specs.Frames.{Frame, code_of}
use Rattle.segment_word.specs.Layout.{word_of}
use Rattle.segment_word.proofs.Words.{code_below_four}

pub word_state : (k : Frame) (x : ℕ) → x ≡ word_of k 0 → x % 4 ≡ code_of k.phase
word_state k x is = let small : code_of k.phase < 4 = code_below_four k.phase in omega arith
