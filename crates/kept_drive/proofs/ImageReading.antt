-- What is read of bytes that encode an image.
use Rattle.std.proofs.Common.{◌≡◌, ℕ, List, Some}
use Rattle.s4_types.specs.declared.refusals.Cause.{Cause}
use Rattle.image_parts.specs.Image.{Image, image_in}
use Rattle.image_parts.specs.declared.marks.ImageMark.TheVariants.{Third}
use Rattle.image_parts.proofs.ImageLaws.{again}
use Rattle.verifier.specs.Grammar.{FirstFault, SpellsDrive}
use Rattle.verifier.proofs.Faults.{nothing_spelled}

-- it is the image that they encode
pub read_again : (bytes : List ℕ) (image : Image) → SpellsDrive bytes image → image_in bytes ≡ image
read_again bytes image spells = (again Third bytes image spells.parts).1

-- they have no fault
pub faultless : (bytes : List ℕ) (cause : Cause) (image : Image) → FirstFault bytes (Some cause) → SpellsDrive bytes image → ⊥
faultless = nothing_spelled (λ bytes image spells. (again Third bytes image spells).0) (λ bytes image spells. (again Third bytes image spells).1)
