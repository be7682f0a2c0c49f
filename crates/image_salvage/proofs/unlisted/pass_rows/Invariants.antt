-- The objects of the rows so far are left out.
use Rattle.std.proofs.Common.{take}
use Rattle.object_map.specs.Objects.{value_of}
use Rattle.segment_table.specs.Used.{used_at}
use Rattle.image_salvage.specs.private.Passing.{AreLeft}
use Rattle.image_salvage.proofs.unlisted.pass_rows.Given as goal

abbrev pub invariant-loop-row : goal.invariant-loop-row
invariant-loop-row l = AreLeft (used_at l.table) (take l.row-index l.rows) (value_of l.initial.heads.entries) (value_of l.heads.entries)
