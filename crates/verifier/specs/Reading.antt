-- What is read of an image's rows, one after the other.
use Rattle.std.specs.Prelude.{◌≡◌, ℕ, true, List, [], ◌∷◌, Option}
use Rattle.s4_types.specs.Pointer.{Place}
use Rattle.block_log.specs.Log.{Stored, is_data}
use Rattle.segment_table.specs.Slots.{capped}
use Rattle.segment_table.specs.Table.{Table, held_at, named_at}
use Rattle.segment_table.specs.Used.{used_at}
use Rattle.version_store.specs.Opening.{OpenedFields, IndexesEntries}
use Rattle.image_objects.specs.declared.rows.ImageRow.{ImageRow}
use Rattle.image_objects.specs.Chains.{entries_used}
use Rattle.image_objects.specs.VersionChain.{kept_row, present_used}
use Rattle.image_objects.specs.Naming.{HoldsWhatIsNamed, times_told}
use Rattle.image_objects.specs.Rows.{RowsStand}
use Rattle.image_parts.specs.declared.rows.RowPart.{RowPart}
use Rattle.verifier.specs.Rows.{SpellRows}

-- what a drive keeps of a row of an image
pub record IsKept (used : Place → Option Stored) (saved : ImageRow) (kept : OpenedFields) : Type 0 where
  pub object : kept.object ≡ saved.object
  pub row : kept.row ≡ kept_row used saved 0
  pub inode : kept.inode ≡ present_used used saved
  pub entries : IndexesEntries kept (entries_used used saved)

-- the same of all rows, in their order
abbrev pub AreKept : (Place → Option Stored) → List ImageRow → List OpenedFields → Type 0
AreKept used [] [] = Unit {0}
AreKept used [] (x ∷ objects) = ⊥
AreKept used (row ∷ rows) [] = ⊥
AreKept used (row ∷ rows) (x ∷ objects) = IsKept used row x × AreKept used rows objects

-- each used data block has as many names as pointers of these rows refer to it, as far as 32 bits count
abbrev pub NamesAreCapped : (Place → Option Stored) → (Place → ℕ) → List ImageRow → Type 0
NamesAreCapped used named rows = (p : Place) → is_data (used p) ≡ true → named p ≡ capped (times_told used rows p)

-- What was read of the rows of an image, over the table that its frames told: the rows that their bytes encode all stand up to
-- the clock, these objects are kept of them, and of the used blocks just those are held afterwards that the rows name, data by as many
-- names as they give it.
pub record AreRead (table : Table) (parts : List RowPart) (clock : ℕ) (after : Table) (objects : List OpenedFields) : Type 0 where
  pub rows : List ImageRow
  pub spelled : SpellRows parts rows
  pub stand : RowsStand (used_at table) rows clock
  pub kept : AreKept (used_at table) rows objects
  pub held : HoldsWhatIsNamed (used_at table) (held_at after) rows
  pub named : NamesAreCapped (used_at table) (named_at after) rows
