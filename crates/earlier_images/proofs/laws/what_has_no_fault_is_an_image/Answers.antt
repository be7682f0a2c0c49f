use Rattle.image_parts.specs.declared.marks.ImageMark.TheVariants.{Earlier}
use Rattle.image_parts.specs.Marks.{earlier_in}
use Rattle.image_parts.specs.Image.{image_in}
use Rattle.earlier_images.proofs.Faults.{spelled_where_none, none_where_spelled}
use Rattle.earlier_images.proofs.laws.what_has_no_fault_is_an_image.Goals as goal

pub returns-clause-image : goal.returns-clause-image
returns-clause-image c =
    λ bytes are. (spelled_where_none bytes (c.images_with_a_mark.ensures.found (Earlier (earlier_in bytes)) bytes are), none_where_spelled (λ v. c.images_with_a_mark.ensures.tests (Earlier v)) (λ v. c.images_with_a_mark.ensures.read (Earlier v)) bytes (image_in bytes))

pub returns-clause-read : goal.returns-clause-read
returns-clause-read c = λ bytes image spells. c.images_with_a_mark.ensures.read (Earlier (earlier_in bytes)) bytes image spells.parts
