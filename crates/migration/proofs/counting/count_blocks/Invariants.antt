use Rattle.std.proofs.Common.{◌≡◌, ◌+◌, ◌≤◌, drop}
use Rattle.migration.specs.Rows.{blocks_of_rows}
use Rattle.migration.specs.declared.counting.TheConstants.{MOST_COPIED}
use Rattle.migration.proofs.counting.count_blocks.Given as goal

abbrev pub invariant-loop-row : goal.invariant-loop-row
invariant-loop-row g l =
    let used = g.U.UsedBlocks.used l.used in
    record {
      left : l.count + blocks_of_rows l.version used (drop l.row-index l.rows) ≡ blocks_of_rows l.version used l.rows;
      few : l.count ≤ MOST_COPIED;
    }
