use Rattle.block_runs.proofs.Blocks.{joined_write_each_once}
use Rattle.block_runs.proofs.laws.joined_runs_write_each_block_once.Goals as goal

pub returns : goal.returns
returns c = joined_write_each_once
