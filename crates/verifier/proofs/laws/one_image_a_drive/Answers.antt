use Rattle.verifier.proofs.OneImage.{one_spelling}
use Rattle.verifier.proofs.laws.one_image_a_drive.Goals as goal

pub returns : goal.returns
returns c = one_spelling
