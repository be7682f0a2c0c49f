use Rattle.std.proofs.Common.{◌≡◌, min, take}
use Rattle.s4_model.specs.Refusals.{last_number}
use Rattle.block_runs.specs.Blocks.{blocks_in_all}
use Rattle.block_runs.proofs.counting.count_blocks.Given as goal

-- the blocks of the runs so far
abbrev pub invariant-loop-run : goal.invariant-loop-run
invariant-loop-run l = l.count ≡ min last_number (blocks_in_all (take l.run-index l.runs))
