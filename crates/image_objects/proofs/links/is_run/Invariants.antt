use Rattle.std.proofs.Common.{◌≡◌, length, take}
use Rattle.s4_types.specs.declared.limits.TheConstants.{OBJECT_BLOCKS}
use Rattle.undo_redo.specs.Runs.{Run, redone_all}
use Rattle.image_objects.proofs.links.is_run.Given as goal

abbrev pub invariant-loop-entry : goal.invariant-loop-entry
invariant-loop-entry l = record {
  run : Run l.fn.first (take l.entry-index l.entries) l.inode;
  is : l.inode ≡ redone_all (take l.entry-index l.entries) l.fn.first;
  count : length l.inode.pointers ≡ OBJECT_BLOCKS;
}
