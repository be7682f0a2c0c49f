-- Rows of an image some of which were copied. No public clause cites this file.
use Rattle.std.specs.Prelude.{◌≡◌, ℕ, ◌<◌, ◌≤◌, List, ◌++◌, length, Option}
use Rattle.std.specs.List.{AllByRecursion}
use Rattle.s4_types.specs.Pointer.{Place}
use Rattle.block_log.specs.Log.{Log, Stored}
use Rattle.codec.specs.declared.versions.ImageVersion.{ImageVersion}
use Rattle.object_map.specs.declared.map.Row.{Row}
use Rattle.version_store.specs.Store.{HasNothing}
use Rattle.image_objects.specs.declared.rows.ImageRow.{ImageRow}
use Rattle.image_objects.specs.Versions.{ObjectStandsBy}
use Rattle.migration.specs.Rows.{AscendAbove, CopyRows, blocks_of_rows}

-- The objects of the first rows were copied; of the others, which are left, nothing is held, and there is room for them.
pub record CopyingRows (version : ImageVersion) (used : Place → Option Stored) (clock : ℕ) (rows rest : List ImageRow) (before now : Log) (laters : List Row) : Type 0 where
  pub front : List ImageRow
  pub split : rows ≡ front ++ rest
  pub copied : CopyRows version used front laters before now
  pub last : ℕ
  pub ascend : AscendAbove last rest
  pub stand : AllByRecursion (λ row. ObjectStandsBy version used row clock) rest
  pub nothing : (o : ℕ) → last < o → HasNothing now.held o
  pub room : blocks_of_rows version used rest ≤ length now.ahead
