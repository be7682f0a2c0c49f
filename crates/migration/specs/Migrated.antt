-- What an image of an earlier version becomes.
use Rattle.std.specs.Prelude.{◌≡◌, ℕ, ◌==◌, ◌<◌, if◌then◌else◌, List, [], ◌∷◌, length, Option, Some, None}
use Rattle.s4_types.specs.Pointer.{Place}
use Rattle.s4_types.specs.declared.limits.TheConstants.{MOST_FRAMES}
use Rattle.s4_types.specs.declared.versions.Version.{Version}
use Rattle.block_log.specs.Log.{Stored}
use Rattle.codec.specs.declared.inodes.Inode.{Inode}
use Rattle.codec.specs.declared.versions.ImageVersion.{ImageVersion}
use Rattle.object_map.specs.declared.map.Row.{Row}
use Rattle.version_store.specs.Versions.{version_by}
use Rattle.segment_table.specs.Room.{log_of}
use Rattle.segment_table.specs.Table.{Table}
use Rattle.segment_table.specs.Used.{used_at}
use Rattle.image_parts.specs.Marks.{earlier_in}
use Rattle.image_parts.specs.Image.{Image}
use Rattle.image_objects.specs.declared.rows.ImageRow.{ImageRow}
use Rattle.image_objects.specs.Saved.{saved_row}
use Rattle.image_objects.specs.Versions.{inode_used_by}
use Rattle.verifier.specs.Grammar.{SpellsDrive}
use Rattle.verifier.specs.Opened.{version_of_rows}
use Rattle.verifier.specs.Rows.{SpellRows}
use Rattle.verifier.specs.Tables.{IsTableOf}
use Rattle.earlier_images.specs.Grammar.{SpellsEarlier}
use Rattle.earlier_images.specs.Images.{EarlierFields, IsEarlierOf}
use Rattle.earlier_images.specs.Used.{used_in}
use Rattle.migration.specs.Rows.{CopyRows, blocks_of_rows}
use Rattle.migration.specs.Frames.{FillsFrames, frames_needed, fresh_log}

-- the inode of an object that is current at a moment, by the rows of an image of an earlier version over its used blocks; none
-- where no row is the object's
abbrev pub inode_of_earlier : ImageVersion → (Place → Option Stored) → List ImageRow → ℕ → ℕ → Option Inode
inode_of_earlier version used [] o t = None
inode_of_earlier version used (row ∷ rows) o t = if row.object == o then Some (inode_used_by version used row t) else inode_of_earlier version used rows o t

-- the version of an object at a moment: what that inode represents over the used blocks, and Absent where there is none
abbrev pub version_of_earlier : ImageVersion → (Place → Option Stored) → List ImageRow → ℕ → ℕ → Version
version_of_earlier version used rows o t = version_by used (inode_of_earlier version used rows o t)

-- the rows of an image whose objects have these rows in a table
abbrev pub rows_then : List ImageRow → List Row → List ImageRow
rows_then [] laters = []
rows_then (row ∷ rows) [] = []
rows_then (row ∷ rows) (later ∷ laters) = saved_row row.object later ∷ rows_then rows laters

-- A new image says what an old one says: it has the same clock, window, floor, next number and spans, no audit rows, and at each moment, also
-- at those that nobody can read any more, each object has in it the version that it had in the old one.
pub record Migrates (old new : List ℕ) : Type 0 where
  pub was : Image
  pub read : SpellsEarlier old was
  pub is : Image
  pub written : SpellsDrive new is
  pub clock : is.clock ≡ was.clock
  pub window : is.window ≡ was.window
  pub floor : is.floor ≡ was.floor
  pub next : is.next ≡ was.next
  pub spans : is.spans ≡ was.spans
  pub audit : is.audit ≡ []
  pub earlier : EarlierFields
  pub of : IsEarlierOf (earlier_in old) was earlier
  pub table : Table
  pub frames : IsTableOf is.frames table
  pub rows : List ImageRow
  pub spelled : SpellRows is.rows rows
  pub versions : (o t : ℕ) → version_of_rows (used_at table) rows o t ≡ version_of_earlier earlier.version (used_in earlier.frames) earlier.rows o t

-- how many frames the new image of an old one has
abbrev pub frames_then : EarlierFields → ℕ
frames_then earlier = frames_needed (length earlier.frames) (blocks_of_rows earlier.version (used_in earlier.frames) earlier.rows)

-- Where the blocks of a new image are: its rows, by ascending object, are those that the objects of the old one get when they are copied one
-- after the other into a new table of just as many frames as are needed; so each block is at its rank in that order, from the
-- first block of the first frame on, and nothing else is used.
pub record LaysOut (old new : List ℕ) : Type 0 where
  pub was : Image
  pub read : SpellsEarlier old was
  pub is : Image
  pub written : SpellsDrive new is
  pub earlier : EarlierFields
  pub of : IsEarlierOf (earlier_in old) was earlier
  pub table : Table
  pub frames : IsTableOf is.frames table
  pub laters : List Row
  pub rows : SpellRows is.rows (rows_then earlier.rows laters)
  pub copied : CopyRows earlier.version (used_in earlier.frames) earlier.rows laters (fresh_log (frames_then earlier)) (log_of table)
  pub filled : FillsFrames (blocks_of_rows earlier.version (used_in earlier.frames) earlier.rows) (frames_then earlier) table

-- The new image of an old one would have more frames than a drive may have.
pub record IsTooMuch (old : List ℕ) : Type 0 where
  pub was : Image
  pub read : SpellsEarlier old was
  pub earlier : EarlierFields
  pub of : IsEarlierOf (earlier_in old) was earlier
  pub many : MOST_FRAMES < frames_then earlier
