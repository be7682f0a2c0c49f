-- How many versions are left out of a copy.
use Rattle.std.specs.Prelude.{◌≡◌, ◌⊎◌, ℕ, if◌then◌else◌, List, length, Option, Some, None}
use Rattle.std.specs.List.{sum_by}
use Rattle.s4_model.specs.State.{State}
use Rattle.object_map.specs.Rows.{row_of}
use Rattle.object_map.specs.declared.map.Row.{Row}
use Rattle.version_store.specs.Store.{StoreFields}
use Rattle.drive.specs.Fields.{DriveFields, state_in, store_of}
use Rattle.history_view.specs.Logs.{AreRowsFrom}
use Rattle.history_export.specs.Checks.{capped}
use Rattle.history_export.specs.Versions.{beginnings_of}
use Rattle.migration.specs.Copies.{stays}
use Rattle.migration.specs.declared.copying.CopyAsked.{CopyAsked as Wanted}
use Rattle.s4_images.specs.Commands.{OverImage}

-- how many versions can be read of an object with this row, where it isn't in the copy: each that `check` reads
abbrev pub versions_of_row : Wanted → State → StoreFields → ℕ → Option Row → ℕ
versions_of_row wanted s store o None = 0
versions_of_row wanted s store o (Some row) = if stays wanted o row.created then 0 else length (beginnings_of s store o)

-- how many versions that can be read of an object a copy lacks
abbrev pub versions_lost : Wanted → State → StoreFields → ℕ → ℕ
versions_lost wanted s store o = versions_of_row wanted s store o (row_of store.rows o)

-- So many versions that can be read of a drive its copy lacks: those of all its objects together. The count stops at 2^64 - 1.
pub record LosesVersions (wanted : Wanted) (d : DriveFields) (count : ℕ) : Type 0 where
  pub objects : List ℕ
  pub have_rows : AreRowsFrom (store_of d) 0 objects
  pub count_is : count ≡ capped (sum_by (versions_lost wanted (state_in d) (store_of d)) objects)

-- So many versions that can be read of the drive that an image tells its copy lacks, which has this many objects less; none where that is none.
abbrev pub IsLeftOut : Wanted → List ℕ → (objects versions : ℕ) → Type 0
IsLeftOut wanted old objects versions = ((objects ≡ 0) × (versions ≡ 0)) ⊎ OverImage (Some old) (λ d. LosesVersions wanted d versions)
