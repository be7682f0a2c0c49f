use Rattle.std.proofs.Common.{ap}
use Rattle.codec.specs.Checkpoint.{holes}
use Rattle.checkpoint.specs.Held.{of_checkpoints, part_in}
use Rattle.image_objects.proofs.checkpoint_blocks.read_part.Goals as goal

pub returns-in_default-clause-exact : goal.returns-in_default-clause-exact
unfolding holes
returns-in_default-clause-exact g c = ap (part_in (of_checkpoints c.args.object (g.U.UsedBlocks.used c.args.used.now)) c.args.first.now c.args.part) c.in_default.is
