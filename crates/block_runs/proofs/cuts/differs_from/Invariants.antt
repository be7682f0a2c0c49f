use Rattle.std.proofs.Common.{◌≡◌, ◌-◌, ◌≤◌, length}
use Rattle.block_runs.specs.Runs.{any_between, differs}
use Rattle.block_runs.proofs.cuts.differs_from.Given as goal

abbrev pub invariant-loop-index : goal.invariant-loop-index
invariant-loop-index l = record {
  from : l.first ≤ l.index;
  within : l.index ≤ length l.bytes;
  rest : any_between (differs l.bytes l.now) l.first (l.index - l.first) ≡ any_between (differs l.bytes l.now) l.first (length l.bytes - l.first);
}

abbrev pub decreases-loop-index : goal.decreases-loop-index
decreases-loop-index l = l.index
