use Rattle.image_parts.specs.Image.{image_in}
use Rattle.verifier.proofs.Faults.{spelled_where_none, none_where_spelled}
use Rattle.verifier.proofs.laws.what_has_no_fault_is_an_image.Goals as goal

pub returns-clause-image : goal.returns-clause-image
returns-clause-image c =
    λ bytes are. (spelled_where_none bytes (c.what_no_test_refuses_is_an_image.ensures bytes are), none_where_spelled c.an_image_is_read.ensures.tests c.an_image_is_read.ensures.read bytes (image_in bytes))
