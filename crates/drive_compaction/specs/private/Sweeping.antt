-- Which frame goes next. No public clause cites this file.
use Rattle.std.specs.Prelude.{◌≡◌, ℕ, List}
use Rattle.segment_table.specs.Counts.{held_count}
use Rattle.drive.specs.Fields.{DriveFields}
use Rattle.drive_compaction.specs.Choosing.{CanBeFreed}

-- a frame has this number of held blocks, and can be freed at a gain
pub record IsNext (counts : List (ℕ × ℕ)) (held : ℕ) (d : DriveFields) (f : ℕ) : Type 0 where
  pub held_is : held_count d.store.table f ≡ held
  pub can : CanBeFreed counts d f
