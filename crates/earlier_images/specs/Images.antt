-- What contracts see of an image of an earlier version that was read.
use Rattle.std.specs.Prelude.{◌≡◌, ℕ, List}
use Rattle.s4_types.specs.declared.spans.Span.{Span}
use Rattle.codec.specs.declared.versions.ImageVersion.{ImageVersion}
use Rattle.image_parts.specs.Image.{Image, header_of}
use Rattle.image_parts.specs.declared.headers.Header.{Header}
use Rattle.image_objects.specs.declared.rows.ImageRow.{ImageRow}
use Rattle.image_objects.specs.Versions.{RowsStandBy}
use Rattle.verifier.specs.Rows.{SpellRows}
use Rattle.earlier_images.specs.declared.frames.EarlierFrame.{EarlierFrame}
use Rattle.earlier_images.specs.Used.{AreFramesOf, used_in}

-- an image: its version, its header, the numbers of its drive in that, its frames with what was read of each, its rows and its spans
pub record EarlierFields : Type 0 where
  pub version : ImageVersion
  pub header : Header
  pub clock : ℕ
  pub window : ℕ
  pub floor : ℕ
  pub next : ℕ
  pub frames : List EarlierFrame
  pub rows : List ImageRow
  pub spans : List Span

-- What was read is an image's of this version: it has the header, the numbers and the spans of these parts, their frames, and the rows
-- that their bytes encode, all of which keep the rules up to its clock.
pub record IsEarlierOf (version : ImageVersion) (parts : Image) (image : EarlierFields) : Type 0 where
  pub version_is : image.version ≡ version
  pub header : image.header ≡ header_of parts
  pub clock : image.clock ≡ parts.clock
  pub window : image.window ≡ parts.window
  pub floor : image.floor ≡ parts.floor
  pub next : image.next ≡ parts.next
  pub spans : image.spans ≡ parts.spans
  pub frames : AreFramesOf parts.frames image.frames
  pub spelled : SpellRows parts.rows image.rows
  pub stand : RowsStandBy image.version (used_in image.frames) image.rows image.clock
