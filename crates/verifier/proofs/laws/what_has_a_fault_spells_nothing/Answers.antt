use Rattle.verifier.proofs.Faults.{nothing_spelled}
use Rattle.verifier.proofs.laws.what_has_a_fault_spells_nothing.Goals as goal

pub returns : goal.returns
returns c = nothing_spelled c.an_image_is_read.ensures.tests c.an_image_is_read.ensures.read
