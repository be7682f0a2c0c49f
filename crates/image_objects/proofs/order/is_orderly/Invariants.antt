use Rattle.std.proofs.Common.{◌≡◌, ◌+◌, length}
use Rattle.image_objects.proofs.Ordering.{SeenTo}
use Rattle.image_objects.proofs.order.is_orderly.Given as goal

abbrev pub invariant-loop-entry : goal.invariant-loop-entry
invariant-loop-entry l = record {
  seen : SeenTo l.fn.created l.fn.clock l.fn.first l.entries l.entry-index l.inode l.live;
  left_are : l.left + l.entry-index ≡ length l.entries;
}
