use Rattle.image_parts.specs.declared.marks.ImageMark.TheVariants.{Third}
use Rattle.image_parts.proofs.ImageLaws.{one_image}
use Rattle.image_parts.proofs.laws.one_image_a_spelling.Goals as goal

pub returns : goal.returns
returns c = one_image Third
