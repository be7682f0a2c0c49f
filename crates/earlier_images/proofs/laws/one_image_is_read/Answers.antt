use Rattle.earlier_images.proofs.OneImage.{one_image}
use Rattle.earlier_images.proofs.laws.one_image_is_read.Goals as goal

pub returns : goal.returns
returns c = one_image c.one_pointer_a_spelling.ensures c.an_image_has_its_frames_once.ensures
