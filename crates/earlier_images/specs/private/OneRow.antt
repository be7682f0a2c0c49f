-- What reading one row of an image of an earlier version makes of what was read before.
use Rattle.std.specs.Prelude.{◌≡◌, ℕ, [], ◌∷◌, ◌++◌, Option}
use Rattle.s4_types.specs.Pointer.{Place}
use Rattle.block_log.specs.Log.{Stored}
use Rattle.codec.specs.declared.versions.ImageVersion.{ImageVersion}
use Rattle.image_parts.specs.declared.rows.RowPart.{RowPart}
use Rattle.image_objects.specs.declared.rows.ImageRow.{ImageRow}
use Rattle.image_objects.specs.Moments.{moments_of_chain}
use Rattle.image_objects.specs.Versions.{entries_used_by, ObjectStandsBy}
use Rattle.verifier.specs.Rows.{SpellsRow}
use Rattle.earlier_images.specs.declared.rows.ReadRows.{ReadRows}

-- The row of this part of an image was read: its bytes encode one row alone, whose object keeps the rules. It comes after the rows that
-- were read before, and its moments after theirs.
pub record IsRowRead (version : ImageVersion) (used : Place → Option Stored) (part : RowPart) (clock : ℕ) (old new : ReadRows) : Type 0 where
  pub row : ImageRow
  pub spelled : SpellsRow part row
  pub only : (other : ImageRow) → SpellsRow part other → other ≡ row
  pub stands : ObjectStandsBy version used row clock
  pub rows : new.rows.items ≡ old.rows.items ++ row ∷ []
  pub moments : new.moments.items ≡ old.moments.items ++ moments_of_chain (entries_used_by version used row)

-- the bytes of a row encode one of which the object keeps the rules
pub record PartStands (version : ImageVersion) (used : Place → Option Stored) (part : RowPart) (clock : ℕ) : Type 0 where
  pub row : ImageRow
  pub spelled : SpellsRow part row
  pub stands : ObjectStandsBy version used row clock
