use Rattle.std.proofs.Common.{◌≡◌, ◌++◌, length, IsSome, reverse}
use Rattle.journal_chain.specs.Chain.{entries_held}
use Rattle.journal_chain.specs.Back.{entries_left, left}
use Rattle.journal_chain.proofs.chain.Chain.entries.Given as goal

abbrev pub invariant-loop-entry : goal.invariant-loop-entry
invariant-loop-entry g l = record {
  there : IsSome (entries_left (g.B.Blocks.log l.table).held l.back);
  whole : left (g.B.Blocks.log l.table).held l.back ++ reverse l.entries.items ≡ entries_held (g.B.Blocks.log l.fn.table).held l.fn.self;
  same : g.B.Blocks.log l.table ≡ g.B.Blocks.log l.fn.table;
}

abbrev pub decreases-loop-entry : goal.decreases-loop-entry
decreases-loop-entry g l = length (left (g.B.Blocks.log l.table).held l.back)
