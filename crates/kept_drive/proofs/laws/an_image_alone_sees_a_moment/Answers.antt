use Rattle.kept_drive.proofs.ImageSeen.{image_seen}
use Rattle.kept_drive.proofs.laws.an_image_alone_sees_a_moment.Goals as goal

pub returns : goal.returns
returns c = image_seen c.an_image_sees_a_moment.ensures.image c.an_image_sees_a_moment.ensures.goes_on
