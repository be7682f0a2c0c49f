use Rattle.std.proofs.Common.{◌≡◌, ◌+◌, ◌≤◌, drop}
use Rattle.journal_chain.specs.Sizes.{breaks}
use Rattle.journal_chain.proofs.packing.sizes.blocks_needed.Given as goal

abbrev pub invariant-loop-size : goal.invariant-loop-size
invariant-loop-size l = record {
  count : l.blocks + breaks l.filled (drop l.size-index l.later) ≡ 1 + breaks l.initial.filled l.later;
  few : l.blocks ≤ 1 + l.size-index;
}
