-- The moment up to which an object's row tells all that it tells.
use Rattle.std.specs.Prelude.{ℕ, ◌≤◌, Option}
use Rattle.s4_types.specs.Pointer.{Place}
use Rattle.block_log.specs.Log.{Stored}
use Rattle.undo_redo.specs.Runs.{AllBy}
use Rattle.object_map.specs.declared.map.Row.{Row}
use Rattle.time_read.specs.Rows.{entries_of}

-- all that an object's row tells is of this moment or an earlier one
pub record IsBy (held : Place → Option Stored) (o : ℕ) (row : Row) (latest : ℕ) : Type 0 where
  pub entries : AllBy latest (entries_of held o row)
  pub checkpoint : row.checkpoint_moment ≤ latest
