-- The bytes that are the image of a drive, and why others aren't.
use Rattle.std.specs.Prelude.{◌≡◌, ℕ, List, Option, None}
use Rattle.s4_types.specs.declared.refusals.Cause.{Cause}
use Rattle.s4_types.specs.declared.refusals.Cause.TheVariants.{Chain, Audit}
use Rattle.image_parts.specs.Image.{Image, SpellsImage, image_in}
use Rattle.image_parts.specs.Causes.{Tested, TestedParts}
use Rattle.verifier.specs.Rows.{ChainsStand}
use Rattle.verifier.specs.Audit.{AuditStands}

-- the bytes encode the image of a drive: its parts, its chains stand, and its audit keeps the rules
pub record SpellsDrive (bytes : List ℕ) (image : Image) : Type 0 where
  pub parts : SpellsImage bytes image
  pub chains : ChainsStand image
  pub audit : AuditStands image

-- the cause of the first test that fails, or none where all hold: those of the parts come first, then that of chains, then
-- that of the audit
abbrev pub FirstFault : List ℕ → Option Cause → Type 0
FirstFault bytes found = TestedParts bytes (Tested (ChainsStand (image_in bytes)) Chain (Tested (AuditStands (image_in bytes)) Audit (λ f. f ≡ None))) found
