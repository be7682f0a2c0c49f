use Rattle.image_objects.proofs.Holding.{holds}
use Rattle.image_objects.proofs.version_chain_laws.a_chain_that_stands_is_held.Goals as goal

pub returns : goal.returns
returns c = holds c.one_place_has_one_name.ensures c.one_packing_keeps_the_rule.ensures
