use Rattle.object_map.proofs.Padded.{empty_padded}
use Rattle.object_map.proofs.sides.Sides.new.Goals as goal

pub invariant_of-result : goal.invariant_of-result
invariant_of-result c = empty_padded c.blank_sides.result c.blank_sides.ensures
