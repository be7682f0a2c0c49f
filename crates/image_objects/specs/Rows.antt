-- When all rows of an image stand, and the rows of a drive that they become.
use Rattle.std.specs.Prelude.{ℕ, ◌<◌, ◌≤◌, List, [], ◌∷◌, map, Option}
use Rattle.std.specs.List.{AllByRecursion}
use Rattle.s4_types.specs.Pointer.{Place}
use Rattle.block_log.specs.Log.{Stored}
use Rattle.object_map.specs.declared.map.Row.{Row}
use Rattle.image_objects.specs.declared.rows.ImageRow.{ImageRow}
use Rattle.image_objects.specs.Chains.{entries_used}
use Rattle.image_objects.specs.VersionChain.{kept_row}
use Rattle.image_objects.specs.Moments.{ChainsShareNoMoment}
use Rattle.image_objects.specs.Objects.{ObjectStands}

-- objects and their makings ascend strictly, from above these two numbers, and each object was made by the clock
abbrev pub RowsAscend : ℕ → ℕ → ℕ → List ImageRow → Type 0
RowsAscend clock object created [] = Unit {0}
RowsAscend clock object created (row ∷ rows) =
    (object < row.object) × (created < row.created) × (row.created ≤ clock) × RowsAscend clock row.object row.created rows

-- no moment is in the chains of two of these rows
abbrev pub RowsShareNoMoment : (Place → Option Stored) → List ImageRow → Type 0
RowsShareNoMoment used rows = ChainsShareNoMoment (entries_used used) rows

-- All rows are in an image up to its clock: each object is, and no moment is in the chains of two.
pub record RowsStand (used : Place → Option Stored) (rows : List ImageRow) (clock : ℕ) : Type 0 where
  pub objects : AllByRecursion (λ row. ObjectStands used row clock) rows
  pub apart : RowsShareNoMoment used rows

-- the rows that a drive keeps of those of an image, none of them changed since
abbrev pub kept_rows : (Place → Option Stored) → List ImageRow → List (ℕ × Row)
kept_rows used rows = map (λ row. (row.object, kept_row used row 0)) rows
