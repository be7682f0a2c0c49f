use Rattle.std.proofs.Common.{◌≡◌, length}
use Rattle.s4_types.specs.declared.limits.TheConstants.{OBJECT_BLOCKS}
use Rattle.inode.specs.Contents.{contents_of}
use Rattle.inode.specs.Changed.{byte_written}
use Rattle.inode.proofs.Stepping.{Upto}
use Rattle.inode.proofs.writes.write_blocks.Given as goal

abbrev pub invariant-loop-index : goal.invariant-loop-index
invariant-loop-index g l = record {
  upto : Upto l.object (byte_written (contents_of (g.B.Blocks.log l.initial.table).held) l.inode l.offset l.bytes) l.inode l.first l.index (g.B.Blocks.log l.initial.table) (g.B.Blocks.log l.table) l.next.pointers;
  count : length l.next.pointers ≡ OBJECT_BLOCKS;
  rest : l.next ≡ record l.inode { pointers = l.next.pointers };
}
