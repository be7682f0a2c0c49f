-- A copy of an image of the present version: what is asked of it, and what it is.
use Rattle.std.specs.Prelude.{◌≡◌, ℕ, ◌<◌, ◌≤◌, ◌||◌, nat_le, min, not, Bool, false, List, length, Option, Some, None, unwrap_or}
use Rattle.std.specs.BTreeSet.{contains}
use Rattle.std.specs.List.{filter}
use Rattle.std.specs.Ordering.{nat_cmp}
use Rattle.s4_types.specs.declared.limits.TheConstants.{MOST_FRAMES}
use Rattle.codec.specs.declared.versions.ImageVersion.TheVariants.{Second}
use Rattle.object_map.specs.declared.map.Row.{Row}
use Rattle.segment_table.specs.Room.{log_of}
use Rattle.segment_table.specs.Table.{Table}
use Rattle.segment_table.specs.Used.{used_at}
use Rattle.image_parts.specs.Image.{Image}
use Rattle.image_objects.specs.declared.rows.ImageRow.{ImageRow}
use Rattle.verifier.specs.Grammar.{SpellsDrive}
use Rattle.verifier.specs.Opened.{version_of_rows}
use Rattle.verifier.specs.Rows.{SpellRows}
use Rattle.verifier.specs.Tables.{IsTableOf}
use Rattle.earlier_images.specs.Images.{EarlierFields, IsEarlierOf}
use Rattle.earlier_images.specs.Used.{used_in}
use Rattle.migration.specs.declared.copying.CopyAsked.{CopyAsked}
use Rattle.migration.specs.Rows.{CopyRows, blocks_of_rows}
use Rattle.migration.specs.Frames.{FillsFrames, frames_needed, fresh_log}
use Rattle.migration.specs.Migrated.{rows_then}

-- an object was made at a moment or later, where one is given
abbrev pub is_made_since : Option ℕ → ℕ → Bool
is_made_since None created = false
is_made_since (Some since) created = nat_le since created

-- an object is in the copy: it isn't named, and wasn't made since
abbrev pub stays : CopyAsked → (object created : ℕ) → Bool
stays asked object created = not (contains nat_cmp asked.objects.now object || is_made_since asked.since created)

-- the rows of the objects that are in the copy
abbrev pub rows_left : CopyAsked → List ImageRow → List ImageRow
rows_left asked rows = filter (λ row. stays asked row.object row.created) rows

-- how many blocks these objects have
abbrev pub blocks_left : CopyAsked → EarlierFields → ℕ
blocks_left asked image = blocks_of_rows image.version (used_in image.frames) (rows_left asked image.rows)

-- How many frames the copy has at least: as many as are asked for, or else as the image has; as many as a drive has; and the reserve
-- beside those that its blocks fill.
abbrev pub frames_copied : CopyAsked → EarlierFields → ℕ
frames_copied asked image = frames_needed (unwrap_or asked.frames (length image.frames)) (blocks_left asked image)

-- how many it may have at most
abbrev pub frames_allowed : CopyAsked → ℕ
frames_allowed asked = min (unwrap_or asked.frames MOST_FRAMES) MOST_FRAMES

-- A copy has the clock, the window, the floor, the next number, the spans and the audit rows of the old image, and just the objects
-- that stay. Each of them has at each moment, also at those that nobody can read any more, the version that it had. The objects were
-- copied one after the other, by ascending numbers, into a new table of as many frames as were asked for, or else as are needed: so each
-- block is at its rank in that order, from the first block of the first frame on, and nothing else is used.
pub record Copies (asked : CopyAsked) (old new : List ℕ) : Type 0 where
  pub was : Image
  pub read : SpellsDrive old was
  pub is : Image
  pub written : SpellsDrive new is
  pub clock : is.clock ≡ was.clock
  pub window : is.window ≡ was.window
  pub floor : is.floor ≡ was.floor
  pub next : is.next ≡ was.next
  pub spans : is.spans ≡ was.spans
  pub audit : is.audit ≡ was.audit
  pub image : EarlierFields
  pub of : IsEarlierOf Second was image
  pub table : Table
  pub frames : IsTableOf is.frames table
  pub laters : List Row
  pub rows : SpellRows is.rows (rows_then (rows_left asked image.rows) laters)
  pub fewer : length is.rows ≤ length was.rows
  pub versions : (o t : ℕ) → version_of_rows (used_at table) (rows_then (rows_left asked image.rows) laters) o t ≡ version_of_rows (used_in image.frames) (rows_left asked image.rows) o t
  pub copied : CopyRows image.version (used_in image.frames) (rows_left asked image.rows) laters (fresh_log (frames_copied asked image)) (log_of table)
  pub filled : FillsFrames (blocks_left asked image) (frames_copied asked image) table
  pub fits : frames_copied asked image ≤ frames_allowed asked

-- The copy of an image would have more frames than it may have.
pub record IsTooMuchToCopy (asked : CopyAsked) (old : List ℕ) : Type 0 where
  pub was : Image
  pub read : SpellsDrive old was
  pub image : EarlierFields
  pub of : IsEarlierOf Second was image
  pub many : frames_allowed asked < frames_copied asked image
