use Rattle.std.proofs.Common.{◌≡◌, ◌++◌, length, map, IsSome, reverse}
use Rattle.codec.specs.Entry.{entry_length}
use Rattle.journal_chain.specs.Back.{entries_left, left}
use Rattle.time_read.specs.Rows.{entries_of}
use Rattle.row_changes.proofs.moves.sizes_told.Given as goal

abbrev pub invariant-loop-entry : goal.invariant-loop-entry
invariant-loop-entry g l = record {
  there : IsSome (entries_left (g.B.Blocks.log l.table).held l.back);
  whole : map entry_length (left (g.B.Blocks.log l.table).held l.back) ++ reverse l.sizes.items ≡ map entry_length (entries_of (g.B.Blocks.log l.fn.table).held l.fn.object l.fn.row);
  same : g.B.Blocks.log l.table ≡ g.B.Blocks.log l.fn.table;
}

abbrev pub decreases-loop-entry : goal.decreases-loop-entry
decreases-loop-entry g l = length (left (g.B.Blocks.log l.table).held l.back)
