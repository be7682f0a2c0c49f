use Rattle.std.proofs.Common.{drop}
use Rattle.migration.specs.private.Copied.{CopyingRows}
use Rattle.migration.proofs.objects.copy_objects.Given as goal

abbrev pub invariant-loop-row : goal.invariant-loop-row
invariant-loop-row g l = CopyingRows l.version (g.U.UsedBlocks.used l.used) l.clock l.rows (drop l.row-index l.rows) (g.B.Blocks.log l.initial.table) (g.B.Blocks.log l.table) l.laters.items
