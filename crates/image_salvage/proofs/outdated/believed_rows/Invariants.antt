-- The rows so far that aren't outdated were added.
use Rattle.std.proofs.Common.{take}
use Rattle.object_map.specs.Objects.{value_of}
use Rattle.segment_table.specs.Used.{used_at}
use Rattle.image_salvage.specs.Outdated.{AreBelieved}
use Rattle.image_salvage.proofs.outdated.believed_rows.Given as goal

abbrev pub invariant-loop-row : goal.invariant-loop-row
invariant-loop-row l = AreBelieved (used_at l.table) (value_of l.heads.entries) (take l.row-index l.rows) l.believed.items
