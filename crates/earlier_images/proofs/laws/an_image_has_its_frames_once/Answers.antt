use Rattle.earlier_images.proofs.OneFrames.{same_frames}
use Rattle.earlier_images.proofs.laws.an_image_has_its_frames_once.Goals as goal

pub returns : goal.returns
returns c = same_frames c.a_summary_has_one_encoding.ensures.one
