use Rattle.image_parts.specs.declared.marks.ImageMark.TheVariants.{Third}
use Rattle.image_parts.proofs.ImageLaws.{again}
use Rattle.image_parts.proofs.laws.an_image_is_read.Goals as goal

pub returns-clause-tests : goal.returns-clause-tests
returns-clause-tests c = λ bytes image s. (again Third bytes image s).0

pub returns-clause-read : goal.returns-clause-read
returns-clause-read c = λ bytes image s. (again Third bytes image s).1
