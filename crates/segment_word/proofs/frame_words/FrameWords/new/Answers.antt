use Rattle.segment_word.proofs.Opening.{blank_frames}
use Rattle.segment_word.proofs.frame_words.FrameWords.new.Goals as goal

pub returns-clause-frames : goal.returns-clause-frames
returns-clause-frames c = blank_frames c.in_ok-words.words.items c.args.count c.in_ok-words.ensures.count c.in_ok-words.ensures.state c.in_ok-words.ensures.zeros
