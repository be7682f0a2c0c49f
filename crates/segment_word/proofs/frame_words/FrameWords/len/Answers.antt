use Rattle.std.proofs.Common.{◌∙◌, sym, ap, length, ◌/◌, ℕ}
use Rattle.segment_word.proofs.Opening.{length-frames_of}
use Rattle.segment_word.proofs.frame_words.FrameWords.len.Goals as goal

pub returns-clause-count : goal.returns-clause-count
returns-clause-count c = ap (λ (n : ℕ). n / 1025) (c.len.ensures ∙ c.self.inside.words.ok.0) ∙ sym (length-frames_of c.self.inside.words.items) ∙ ap length c.self.view_is
