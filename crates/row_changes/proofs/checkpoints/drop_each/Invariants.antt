use Rattle.std.proofs.Common.{◌≡◌, take}
use Rattle.block_log.specs.Taken.{TakesPlaces}
use Rattle.row_changes.specs.Moved.{DropsSides}
use Rattle.row_changes.proofs.checkpoints.drop_each.Given as goal

abbrev pub invariant-loop-side : goal.invariant-loop-side
invariant-loop-side g l =
    let log = g.B.Blocks.log in
    record {
      dropped : DropsSides (log l.fn.table).held l.fn.object (take l.side-index l.sides) (log l.table).held;
      named : (log l.table).named ≡ (log l.fn.table).named;
      takes : TakesPlaces 0 (log l.fn.table) (log l.table);
    }
