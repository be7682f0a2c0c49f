-- The rows of an image with their pointers read, and when the chains of all of them stand.
use Rattle.std.specs.Prelude.{◌≡◌, List, [], ◌∷◌}
use Rattle.std.specs.Int.{w64}
use Rattle.codec.specs.Fields.{number, SpellsSlot}
use Rattle.image_parts.specs.Image.{Image}
use Rattle.image_parts.specs.declared.rows.RowPart.{RowPart}
use Rattle.image_objects.specs.declared.rows.ImageRow.{ImageRow}
use Rattle.image_objects.specs.Rows.{RowsStand}
use Rattle.segment_table.specs.Table.{Table}
use Rattle.segment_table.specs.Used.{used_at}
use Rattle.verifier.specs.Tables.{IsTableOf}

-- a row of an image, with the pointers that its bytes encode
pub record SpellsRow (part : RowPart) (row : ImageRow) : Type 0 where
  pub object : row.object ≡ part.object
  pub created : row.created ≡ part.created
  pub checkpoint_moment : row.checkpoint_moment ≡ part.checkpoint_moment
  pub checkpoint : SpellsSlot (number w64 part.checkpoint) row.checkpoint
  pub head : SpellsSlot (number w64 part.head) row.head

-- all rows, in their order
abbrev pub SpellRows : List RowPart → List ImageRow → Type 0
SpellRows [] [] = Unit {0}
SpellRows [] (row ∷ rows) = ⊥
SpellRows (part ∷ parts) [] = ⊥
SpellRows (part ∷ parts) (row ∷ rows) = SpellsRow part row × SpellRows parts rows

-- The chains of an image stand: over the table that its frames tell, the rows that its bytes encode all stand up to its clock.
-- A pointer names used blocks of open and sealed frames alone, so that a frame which is being emptied holds nothing.
pub record ChainsStand (image : Image) : Type 0 where
  pub table : Table
  pub frames : IsTableOf image.frames table
  pub rows : List ImageRow
  pub spelled : SpellRows image.rows rows
  pub stand : RowsStand (used_at table) rows image.clock
