use Rattle.std.proofs.Common.{drop}
use Rattle.migration.specs.private.Copying.{Copying}
use Rattle.migration.proofs.copies.copy_data.Given as goal

abbrev pub invariant-loop-place : goal.invariant-loop-place
invariant-loop-place g l = Copying (g.U.UsedBlocks.used l.used) l.object l.places (drop l.place-index l.places) l.place-index (g.B.Blocks.log l.initial.table) (g.B.Blocks.log l.table) l.moves.items
