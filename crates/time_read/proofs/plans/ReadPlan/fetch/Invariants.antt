use Rattle.std.proofs.Common.{◌≡◌, ◌-◌, ◌≤◌}
use Rattle.inode.specs.Contents.{listed}
use Rattle.time_read.specs.Plans.{byte_planned}
use Rattle.time_read.proofs.plans.ReadPlan.fetch.Given as goal

abbrev pub invariant-loop-at : goal.invariant-loop-at
invariant-loop-at l = record {
  low : l.fn.self.skip ≤ l.at;
  high : l.at ≤ l.end;
  bytes : l.bytes.items ≡ listed (byte_planned l.fn.self) l.fn.self.skip (l.at - l.fn.self.skip);
  same : l.self ≡ l.fn.self;
}

abbrev pub decreases-loop-at : goal.decreases-loop-at
decreases-loop-at l = l.end - l.at
