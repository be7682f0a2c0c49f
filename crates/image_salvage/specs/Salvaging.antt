-- What is salvaged of the bytes of an image, damaged or not.
use Rattle.std.specs.Prelude.{◌≡◌, ◌⊎◌, ℕ, ◌-◌, max, nat_le, if◌then◌else◌, List, [], length, drop, Option, Some, None}
use Rattle.std.specs.Int.{w32}
use Rattle.s4_types.specs.declared.refusals.Cause.{Cause}
use Rattle.s4_types.specs.declared.refusals.Cause.TheVariants.{Header, Length, Digest, Frame, Span, Row, Chain, Audit}
use Rattle.segment_table.specs.Table.{Table}
use Rattle.segment_table.specs.Used.{used_at}
use Rattle.image_parts.specs.Causes.{FirstSplitCause}
use Rattle.image_parts.specs.Header.{number_in}
use Rattle.image_parts.specs.Image.{image_in}
use Rattle.image_parts.specs.declared.rows.RowPart.{RowPart}
use Rattle.verifier.specs.Grammar.{SpellsDrive, FirstFault}
use Rattle.earlier_images.specs.Grammar.{SpellsEarlier}
use Rattle.image_salvage.specs.Frames.{Sees, AreLostOf}
use Rattle.image_salvage.specs.Searching.{Finds}
use Rattle.image_salvage.specs.RowSearch.{FindsRows}
use Rattle.image_salvage.specs.Unlisted.{FindsUnlisted, FindsUnlistedBy}
use Rattle.image_salvage.specs.declared.unlisted.Unlisted.{Unlisted}

-- the first fault of an image, if it has one; its rows that aren't outdated; how many more there are, or its header counts; the table of the
-- frames by which rows are read; the numbers of the frames that break a rule; and the objects that no row gives
pub record SalvageFields : Type 0 where
  pub fault : Option Cause
  pub rows : List RowPart
  pub missing : ℕ
  pub table : Table
  pub lost : List ℕ
  pub unlisted : List Unlisted

-- How many rows the header counts of bytes that can't be split for this cause: that is known where the header is one, and their length alone is
-- wrong.
abbrev pub rows_counted : List ℕ → Cause → ℕ
rows_counted bytes Length = if nat_le 544 (length bytes) then number_in w32 (drop 48 bytes) else 0
rows_counted bytes Header = 0
rows_counted bytes Digest = 0
rows_counted bytes Frame = 0
rows_counted bytes Span = 0
rows_counted bytes Row = 0
rows_counted bytes Chain = 0
rows_counted bytes Audit = 0

-- why bytes are no image of a drive, or none where they encode the one that is read from them
abbrev pub HasFault : List ℕ → Option Cause → Type 0
HasFault bytes None = SpellsDrive bytes (image_in bytes)
HasFault bytes (Some cause) = FirstFault bytes (Some cause)

-- The frames of an image without a fault are seen by their words. Of any other all frames are found by themselves.
abbrev pub SeesBy : List ℕ → Table → Option Cause → Type 0
SeesBy bytes t None = Sees (image_in bytes).frames t
SeesBy bytes t (Some cause) = Finds bytes t

-- The header is one, and the parts that it tells fill the bytes: the rows are the image's, outdated ones of a damaged image aside, and the
-- frames that break a rule are known.
pub record IsSalvageOfParts (bytes : List ℕ) (s : SalvageFields) : Type 0 where
  pub split : FirstSplitCause bytes None
  pub unlisted_are : FindsUnlistedBy s.fault (used_at s.table) (image_in bytes).rows s.rows s.unlisted
  pub missing_are : s.missing ≡ length (image_in bytes).rows - length s.rows
  pub lost_are : AreLostOf (image_in bytes).frames (length (image_in bytes).frames) s.lost

-- No header, or one that the bytes don't fit: the rows are those that are found and aren't outdated. The others that are found are missing,
-- or as many as the header counts, if that is more. Of the words of frames nothing is known.
pub record IsSalvageOfBytes (bytes : List ℕ) (s : SalvageFields) : Type 0 where
  pub cause : Cause
  pub split : FirstSplitCause bytes (Some cause)
  pub found : List RowPart
  pub found_are : FindsRows (used_at s.table) bytes found
  pub unlisted_are : FindsUnlisted (used_at s.table) found s.rows s.unlisted
  pub missing_are : s.missing ≡ max (rows_counted bytes cause) (length found) - length s.rows
  pub lost_are : s.lost ≡ []

-- It is salvaged of these bytes.
pub record IsSalvageOf (bytes : List ℕ) (s : SalvageFields) : Type 0 where
  pub has : HasFault bytes s.fault
  pub sees : SeesBy bytes s.table s.fault
  pub of : IsSalvageOfParts bytes s ⊎ IsSalvageOfBytes bytes s

-- The bytes encode the image of a drive of an earlier version.
abbrev pub IsEarlier : List ℕ → Type 0
IsEarlier bytes = SpellsEarlier bytes (image_in bytes)

-- Neither a row is found in bytes, nor an object that no row gives, over the frames that are found in them.
pub record HasNothing (bytes : List ℕ) : Type 0 where
  pub table : Table
  pub finds : Finds bytes table
  pub no_row : FindsRows (used_at table) bytes []
  pub no_object : FindsUnlisted (used_at table) [] [] []
