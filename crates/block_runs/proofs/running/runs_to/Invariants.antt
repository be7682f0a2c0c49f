use Rattle.std.proofs.Common.{◌≡◌, ◌≤◌, length, reverse}
use Rattle.block_runs.specs.Runs.{is_put, runs_below, runs_to}
use Rattle.block_runs.proofs.running.runs_to.Given as goal

abbrev pub invariant-loop-index : goal.invariant-loop-index
invariant-loop-index l = record {
  within : l.index ≤ length l.bytes;
  rest : runs_below (is_put l.bytes l.now) l.gap l.index (reverse l.runs.items) ≡ runs_to l.gap l.bytes l.now;
}

abbrev pub decreases-loop-index : goal.decreases-loop-index
decreases-loop-index l = l.index
