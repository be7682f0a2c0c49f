use Rattle.std.proofs.Common.{◌≡◌, length}
use Rattle.s4_types.specs.declared.limits.TheConstants.{OBJECT_BLOCKS}
use Rattle.inode.specs.Contents.{contents_of}
use Rattle.inode.specs.Tidiness.{Tidy}
use Rattle.image_objects.proofs.Moments.{Judged}
use Rattle.image_objects.proofs.tidiness.are_tidy.Given as goal

abbrev pub invariant-loop-entry : goal.invariant-loop-entry
invariant-loop-entry g l = record {
  judged : Judged (Tidy (contents_of (g.U.UsedBlocks.used l.used))) l.fn.first l.entries l.entry-index l.since l.inode;
  count : length l.inode.pointers ≡ OBJECT_BLOCKS;
}
