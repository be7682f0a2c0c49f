use Rattle.image_parts.specs.declared.marks.ImageMark.TheVariants.{Third}
use Rattle.image_parts.proofs.ImageLaws.{found}
use Rattle.image_parts.proofs.laws.what_no_test_refuses_is_an_image.Goals as goal

pub returns : goal.returns
returns c = found Third
