use Rattle.std.proofs.Common.{◌≡◌, true, length, IsSome}
use Rattle.codec.specs.declared.inodes.Inode.{Inode}
use Rattle.undo_redo.specs.Runs.{Run, inode_after}
use Rattle.undo_redo.specs.Groups.{grouped}
use Rattle.journal_chain.specs.Back.{entries_left, left}
use Rattle.time_read.proofs.inodes.undo_past.Given as goal

abbrev pub invariant-loop-entry : goal.invariant-loop-entry
invariant-loop-entry g l = record {
  there : IsSome (entries_left (g.B.Blocks.log l.table).held l.back);
  groups : grouped (left (g.B.Blocks.log l.table).held l.back) ≡ true;
  run : (first : Inode) → Run first (left (g.B.Blocks.log l.fn.table).held l.fn.back) l.fn.inode
      → Run first (left (g.B.Blocks.log l.table).held l.back) l.inode × (inode_after first (left (g.B.Blocks.log l.fn.table).held l.fn.back) l.at ≡ inode_after first (left (g.B.Blocks.log l.table).held l.back) l.at);
  same : g.B.Blocks.log l.table ≡ g.B.Blocks.log l.fn.table;
}

abbrev pub decreases-loop-entry : goal.decreases-loop-entry
decreases-loop-entry g l = length (left (g.B.Blocks.log l.table).held l.back)
