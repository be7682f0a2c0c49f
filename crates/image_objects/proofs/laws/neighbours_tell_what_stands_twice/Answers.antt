use Rattle.image_objects.proofs.Sorted.{neighbours}
use Rattle.image_objects.proofs.laws.neighbours_tell_what_stands_twice.Goals as goal

pub returns : goal.returns
returns c = neighbours
