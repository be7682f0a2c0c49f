-- The line that `verify` writes, and the image that it tells of.
use Rattle.std.specs.Prelude.{ℕ, ◌+◌, ◌*◌, ◌<◌, ◌++◌, List, ⊤, Option, None, Some, codes, decimal, length}
use Rattle.std.specs.Io.KnownBytes.{Appends}
use Rattle.s4_types.specs.declared.limits.TheConstants.{MOST_FRAMES, PAYLOAD_BLOCKS, RUNS_IN_ALL}
use Rattle.s4_types.specs.declared.refusals.Cause.{Cause}
use Rattle.image_parts.specs.Marks.{earlier_in}
use Rattle.image_parts.specs.declared.marks.ImageMark.{ImageMark}
use Rattle.image_parts.specs.declared.marks.ImageMark.TheVariants.{Earlier as OfEarlier, Third}
use Rattle.image_commands.specs.declared.verifying.Asked.{Asked}
use Rattle.image_commands.specs.declared.verifying.Asked.TheVariants.{Present, Earlier}
use Rattle.image_parts.specs.Causes.{FirstSplitCause, FirstSplitCauseBy}
use Rattle.image_parts.specs.Image.{image_in}
use Rattle.verifier.specs.Grammar.{SpellsDrive, FirstFault}
use Rattle.verifier.specs.Images.{ImageFields, IsImageOf}
use Rattle.image_commands.specs.Files.{AreKnown}

-- the line of an image's frames, objects, clock, window and floor
abbrev pub number_line : (frames objects clock window floor : ℕ) → List ℕ
number_line frames objects clock window floor =
    codes "ok frames=" ++ (decimal frames ++ (codes " objects=" ++ (decimal objects ++ (codes " clock=" ++ (decimal clock
    ++ (codes " window=" ++ (decimal window ++ (codes " floor=" ++ (decimal floor ++ codes "\n")))))))))

-- the line of what an image tells
abbrev pub image_line : ImageFields → List ℕ
image_line image = number_line (length image.table.seat.frames) (length image.objects) image.clock image.window image.floor

-- an image that was read and verified: the bytes, where they are known, encode a drive, and it is what they tell
pub record IsVerified (known : Option (List ℕ)) (image : ImageFields) : Type 0 where
  pub bytes : List ℕ
  pub read : AreKnown known bytes
  pub spelled : SpellsDrive bytes (image_in bytes)
  pub told : IsImageOf (image_in bytes) image

-- the bytes, where they are known, encode no drive, for this cause first
abbrev pub IsDamaged : Option (List ℕ) → Cause → Type 0
IsDamaged None cause = ⊤
IsDamaged (Some bytes) cause = FirstFault bytes (Some cause)

-- the mark that an image has which is asked for and begins with these bytes
abbrev pub mark_asked : Asked → List ℕ → ImageMark
mark_asked Present bytes = Third
mark_asked Earlier bytes = OfEarlier (earlier_in bytes)

-- the bytes, where they are known, can't be split into the parts of an image that is asked for, for this cause first
abbrev pub IsUnsplit : Asked → Option (List ℕ) → Cause → Type 0
IsUnsplit asked None cause = ⊤
IsUnsplit asked (Some bytes) cause = FirstSplitCauseBy (mark_asked asked bytes) bytes (Some cause)

-- how many bytes the longest image of this many frames has that has no audit rows
abbrev pub longest_without_audit : ℕ → ℕ
longest_without_audit frames = 512 + 8 * frames + 8192 * frames + 40 * (frames * PAYLOAD_BLOCKS) + 24 * RUNS_IN_ALL + 32

-- the bytes are more than any image without audit rows has, and can't be split into the parts of one that has some
pub record IsTooLong (bytes : List ℕ) : Type 0 where
  pub long : longest_without_audit MOST_FRAMES < length bytes
  pub cause : Cause
  pub unsplit : FirstSplitCause bytes (Some cause)

-- so they are, where they are known
abbrev pub IsOverlong : Option (List ℕ) → Type 0
IsOverlong None = ⊤
IsOverlong (Some bytes) = IsTooLong bytes

-- the output has the line of an image that was read and verified after it
pub record TellsImage (known : Option (List ℕ)) (output output' : Option (List ℕ)) : Type 0 where
  pub image : ImageFields
  pub verified : IsVerified known image
  pub line : Appends output output' (image_line image)
