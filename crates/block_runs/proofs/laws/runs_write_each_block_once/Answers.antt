use Rattle.block_runs.proofs.Blocks.{runs_write_each_once}
use Rattle.block_runs.proofs.laws.runs_write_each_block_once.Goals as goal

pub returns : goal.returns
returns c = runs_write_each_once
