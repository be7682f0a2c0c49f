-- Bounds of what turns do, so that their sums fit. No public clause cites this file.
use Rattle.std.specs.Prelude.{ℕ, ◌*◌, ◌^◌, ◌≤◌}
use Rattle.drive_compaction.specs.declared.turns.Turn.{Turn}
use Rattle.drive_compaction.specs.declared.turns.Work.{Work}

pub record IsLittleTurn (turn : Turn) : Type 0 where
  pub frames : turn.swept.frames ≤ 2 ^ 32
  pub moves : turn.swept.moves ≤ 2 ^ 32

-- of at most this number of turns
pub record IsLittleWork (turns : ℕ) (work : Work) : Type 0 where
  pub rewritten : work.rewritten ≤ 2 ^ 32 * turns
  pub removed : work.removed ≤ 2 ^ 32 * turns
  pub frames : work.frames ≤ 2 ^ 32 * turns
  pub moves : work.moves ≤ 2 ^ 32 * turns
