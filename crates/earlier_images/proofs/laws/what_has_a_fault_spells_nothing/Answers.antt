use Rattle.image_parts.specs.declared.marks.ImageMark.TheVariants.{Earlier}
use Rattle.earlier_images.proofs.Faults.{nothing_spelled}
use Rattle.earlier_images.proofs.laws.what_has_a_fault_spells_nothing.Goals as goal

pub returns : goal.returns
returns c = nothing_spelled (λ v. c.images_with_a_mark.ensures.tests (Earlier v)) (λ v. c.images_with_a_mark.ensures.read (Earlier v))
