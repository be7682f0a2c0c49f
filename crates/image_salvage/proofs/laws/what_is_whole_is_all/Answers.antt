use Rattle.image_salvage.proofs.NothingLost.{whole_is_all}
use Rattle.image_salvage.proofs.laws.what_is_whole_is_all.Goals as goal

pub returns : goal.returns
returns c = whole_is_all c.an_undamaged_image_is_salvaged_whole.ensures
