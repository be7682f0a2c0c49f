-- What reading one row of an image makes of what was read before.
use Rattle.std.specs.Prelude.{◌≡◌, ℕ, List, [], ◌∷◌, ◌++◌, Option}
use Rattle.s4_types.specs.Pointer.{Place}
use Rattle.block_log.specs.Log.{Stored}
use Rattle.segment_table.specs.Table.{held_at, named_at}
use Rattle.version_store.specs.Opening.{OpenedFields}
use Rattle.image_parts.specs.declared.rows.RowPart.{RowPart}
use Rattle.image_objects.specs.declared.rows.ImageRow.{ImageRow}
use Rattle.image_objects.specs.Chains.{entries_used}
use Rattle.image_objects.specs.Objects.{ObjectStands}
use Rattle.image_objects.specs.Naming.{HoldsWhatIsNamed}
use Rattle.image_objects.specs.Moments.{moments_of_chain}
use Rattle.verifier.specs.declared.objects.ReadRows.{ReadRows}
use Rattle.verifier.specs.Rows.{SpellsRow}
use Rattle.verifier.specs.Reading.{IsKept, NamesAreCapped}
use Rattle.verifier.specs.private.Holding.{IsUsedAlike}

-- The row of this part of an image was read: its bytes encode one row alone, its object stands, it is kept after the objects
-- that were read before, its moments come after theirs, and what it names is held beside what they name, data by one name more for
-- each of its pointers.
pub record IsRowRead (used : Place → Option Stored) (part : RowPart) (clock : ℕ) (old new : ReadRows) : Type 0 where
  pub row : ImageRow
  pub spelled : SpellsRow part row
  pub only : (other : ImageRow) → SpellsRow part other → other ≡ row
  pub stands : ObjectStands used row clock
  pub opened : OpenedFields
  pub kept : IsKept used row opened
  pub objects : new.objects.items ≡ old.objects.items ++ opened ∷ []
  pub moments : new.moments.items ≡ old.moments.items ++ moments_of_chain (entries_used used row)
  pub held : (rows : List ImageRow) → HoldsWhatIsNamed used (held_at old.table) rows → HoldsWhatIsNamed used (held_at new.table) (rows ++ row ∷ [])
  pub named : (rows : List ImageRow) → NamesAreCapped used (named_at old.table) rows → NamesAreCapped used (named_at new.table) (rows ++ row ∷ [])
  pub alike : IsUsedAlike old.table new.table

-- a row of an image stands: its bytes encode one of which the object stands
pub record PartStands (used : Place → Option Stored) (part : RowPart) (clock : ℕ) : Type 0 where
  pub row : ImageRow
  pub spelled : SpellsRow part row
  pub stands : ObjectStands used row clock
