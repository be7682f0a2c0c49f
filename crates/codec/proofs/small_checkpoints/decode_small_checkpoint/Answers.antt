use Rattle.codec.proofs.SmallLaws.{small_exact}
use Rattle.codec.proofs.Whole.{found_all, only_all}
use Rattle.codec.proofs.small_checkpoints.decode_small_checkpoint.Goals as goal

pub returns-clause-found : goal.returns-clause-found
returns-clause-found c = found_all small_exact c.args.block.now c.checkpoint_in.result c.fits-block c.checkpoint_in.ensures

pub returns-clause-only : goal.returns-clause-only
returns-clause-only c = only_all small_exact c.args.block.now c.checkpoint_in.result c.checkpoint_in.ensures
