use Rattle.std.proofs.Common.{length}
use Rattle.image_salvage.proofs.giving.+tell_frames.Given as goal

abbrev pub decreases-tell_frames : goal.decreases-tell_frames
decreases-tell_frames g l = length l.lost.now
