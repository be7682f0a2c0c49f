-- The blocks so far were looked at.
use Rattle.object_map.specs.Objects.{value_of}
use Rattle.segment_table.specs.Used.{used_at}
use Rattle.image_salvage.specs.Newest.{AreNewest}
use Rattle.image_salvage.specs.Heads.{MakesByCheckpoint}
use Rattle.image_salvage.proofs.heads.newest_checkpoints.Given as goal

abbrev pub invariant-loop-order : goal.invariant-loop-order
invariant-loop-order l = AreNewest (MakesByCheckpoint (used_at l.table)) l.order (value_of l.notes.entries)
