use Rattle.std.proofs.Common.{◌≡◌, ◌-◌, ◌%◌}
use Rattle.time_read.proofs.Planning.{Planned}
use Rattle.time_read.proofs.plans.plan.Given as goal

abbrev pub invariant-loop-index : goal.invariant-loop-index
invariant-loop-index l = record {
  planned : Planned l.fn.table l.inode l.first (l.index - l.first) l.plan;
  skip : l.plan.skip ≡ l.start % 512;
  length : l.plan.length ≡ l.count;
  table : l.table ≡ l.fn.table;
}
