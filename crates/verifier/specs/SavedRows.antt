-- The rows of a drive as they are saved, found one by one by ascending object.
use Rattle.std.specs.Prelude.{◌≡◌, ℕ, ◌≤◌, List}
use Rattle.std.specs.List.{AllByRecursion}
use Rattle.object_map.specs.declared.map.Row.{Row}
use Rattle.object_map.specs.Rows.{row_of}
use Rattle.image_parts.specs.Rows.{IsRow}
use Rattle.image_parts.specs.declared.rows.RowPart.{RowPart}
use Rattle.image_objects.specs.Saved.{ObjectsAscend, saved_rows}
use Rattle.verifier.specs.Rows.{SpellRows}

-- These parts are what the rows of all objects up to one are saved as, by ascending object.
pub record AreSavedUpTo (all : List (ℕ × Row)) (last : ℕ) (parts : List RowPart) : Type 0 where
  pub rows : List (ℕ × Row)
  pub ascending : ObjectsAscend 1 rows
  pub below : AllByRecursion (λ e. e.0 ≤ last) rows
  pub listed : (o : ℕ) → o ≤ last → row_of rows o ≡ row_of all o
  pub spelled : SpellRows parts (saved_rows rows)
  pub is : AllByRecursion IsRow parts

-- These parts are what the rows of all objects are saved as, by ascending object.
pub record AreSaved (all : List (ℕ × Row)) (parts : List RowPart) : Type 0 where
  pub rows : List (ℕ × Row)
  pub ascending : ObjectsAscend 1 rows
  pub listed : (o : ℕ) → row_of rows o ≡ row_of all o
  pub spelled : SpellRows parts (saved_rows rows)
  pub is : AllByRecursion IsRow parts
