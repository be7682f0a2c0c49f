-- The bytes that are the image of a drive of an earlier version, and why others aren't.
use Rattle.std.specs.Prelude.{◌≡◌, ℕ, List, Option, None}
use Rattle.s4_types.specs.declared.refusals.Cause.{Cause}
use Rattle.s4_types.specs.declared.refusals.Cause.TheVariants.{Chain}
use Rattle.image_parts.specs.Marks.{earlier_in}
use Rattle.image_parts.specs.declared.marks.ImageMark.TheVariants.{Earlier}
use Rattle.image_parts.specs.Image.{Image, SpellsImageBy, image_in}
use Rattle.image_parts.specs.Causes.{Tested, TestedPartsBy}
use Rattle.earlier_images.specs.Rows.{EarlierChainsStand}

-- the bytes encode the image of a drive of the version that they tell: its parts, and chains that keep the rules
pub record SpellsEarlier (bytes : List ℕ) (image : Image) : Type 0 where
  pub parts : SpellsImageBy (Earlier (earlier_in bytes)) bytes image
  pub chains : EarlierChainsStand (earlier_in bytes) image

-- The cause of the first test that fails, or none where all hold, in an image of the version that the bytes tell: those of the
-- parts come first, then that of chains.
abbrev pub FirstEarlierFault : List ℕ → Option Cause → Type 0
FirstEarlierFault bytes found =
    TestedPartsBy (Earlier (earlier_in bytes)) bytes (Tested (EarlierChainsStand (earlier_in bytes) (image_in bytes)) Chain (λ f. f ≡ None)) found
