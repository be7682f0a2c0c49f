-- What is salvaged of an image that isn't damaged: all of its objects, as a drive that is opened from it has them.
use Rattle.std.specs.Prelude.{◌≡◌, ℕ, ◌<◌, List, [], length, slice_index_or, Option, Some, None}
use Rattle.s4_types.specs.Pointer.{Place}
use Rattle.s4_types.specs.declared.versions.Version.{Version}
use Rattle.block_log.specs.Log.{Stored}
use Rattle.codec.specs.declared.inodes.Inode.{Inode}
use Rattle.inode.specs.Contents.{meaning}
use Rattle.segment_table.specs.Table.{Table}
use Rattle.segment_table.specs.Used.{used_at}
use Rattle.version_store.specs.Versions.{version_by}
use Rattle.image_parts.specs.Image.{Image}
use Rattle.image_parts.specs.declared.rows.RowPart.{RowPart}
use Rattle.image_objects.specs.declared.rows.ImageRow.{ImageRow}
use Rattle.image_objects.specs.Objects.{inode_used}
use Rattle.verifier.specs.Tables.{IsTableOf}
use Rattle.verifier.specs.Rows.{SpellRows}
use Rattle.verifier.specs.Grammar.{SpellsDrive}
use Rattle.image_salvage.specs.declared.rows.Salvaged.{Salvaged}
use Rattle.image_salvage.specs.Contents.{data_of}
use Rattle.image_salvage.specs.Rows.{IsSalvagedBy}
use Rattle.history_export.specs.Folders.{NamedFile}
use Rattle.image_salvage.specs.Salvaging.{SalvageFields, IsSalvageOf}
use Rattle.image_salvage.specs.Wholeness.{IsGivenWhole, HasEachLive}

-- the version that an inode of an object represents over the blocks that were salvaged
abbrev pub salvaged_version : (Place → Option Stored) → ℕ → Inode → Version
salvaged_version seen o i = meaning (data_of seen o) i

-- A row gives its object, with an inode that stands, over the blocks that were salvaged, for the version that the object has at the clock,
-- by this row over the used blocks of the image.
pub record IsSalvagedWhole (used : Place → Option Stored) (clock : ℕ) (row : ImageRow) (seen : Place → Option Stored) (salvaged : Salvaged) : Type 0 where
  pub object : salvaged.object ≡ row.object
  pub inode : Inode
  pub present : salvaged.present ≡ Some inode
  pub version : salvaged_version seen row.object inode ≡ version_by used (Some (inode_used used row clock))

-- An image has no fault, no frame of it is lost, and what a row of it gives is all that it had, over the table and by the rows by which a
-- drive is opened from it.
pub record HasAll (image : Image) (s : SalvageFields) : Type 0 where
  pub sound : s.fault ≡ None
  pub same : s.rows ≡ image.rows
  pub table : Table
  pub frames : IsTableOf image.frames table
  pub rows : List ImageRow
  pub spelled : SpellRows image.rows rows
  pub intact : s.lost ≡ []
  pub each : (k : ℕ) (part : RowPart) (row : ImageRow) (salvaged : Salvaged) → k < length rows → IsSalvagedBy (used_at s.table) (slice_index_or image.rows k part) salvaged
      → IsSalvagedWhole (used_at table) image.clock (slice_index_or rows k row) (used_at s.table) salvaged

abbrev pub AnUndamagedImageIsSalvagedWhole : Type 0
AnUndamagedImageIsSalvagedWhole = (bytes : List ℕ) (image : Image) (s : SalvageFields) → SpellsDrive bytes image → IsSalvageOf bytes s → HasAll image s

-- What is given out whole is all that a drive that is opened from the bytes has at its clock.
abbrev pub WhatIsWholeIsAll : Type 0
WhatIsWholeIsAll = (bytes : List ℕ) (s : SalvageFields) (files : Option (List NamedFile)) → IsSalvageOf bytes s → IsGivenWhole s files → HasEachLive bytes files
