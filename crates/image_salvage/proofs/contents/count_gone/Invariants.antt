-- Those of the blocks so far are counted.
use Rattle.std.proofs.Common.{◌≡◌, ◌≤◌}
use Rattle.segment_table.specs.Used.{used_at}
use Rattle.image_salvage.specs.Contents.{gone_below}
use Rattle.image_salvage.proofs.contents.count_gone.Given as goal

abbrev pub invariant-loop-index : goal.invariant-loop-index
invariant-loop-index l = record {
  few : l.gone ≤ l.index;
  counted : l.gone ≡ gone_below (used_at l.table) l.object l.inode l.index;
}
