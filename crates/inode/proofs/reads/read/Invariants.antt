use Rattle.std.proofs.Common.{◌≡◌, ◌-◌, ◌≤◌}
use Rattle.inode.specs.Contents.{contents_of, byte_of, listed}
use Rattle.inode.proofs.reads.read.Given as goal

abbrev pub invariant-loop-at : goal.invariant-loop-at
invariant-loop-at g l = record {
  low : l.offset ≤ l.at;
  high : l.at ≤ l.end;
  bytes : l.bytes.items ≡ listed (byte_of (contents_of (g.B.Blocks.log l.initial.table).held) l.inode) l.offset (l.at - l.offset);
  same : g.B.Blocks.log l.table ≡ g.B.Blocks.log l.initial.table;
}

abbrev pub decreases-loop-at : goal.decreases-loop-at
decreases-loop-at g l = l.end - l.at
