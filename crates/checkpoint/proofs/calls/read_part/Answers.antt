use Rattle.std.proofs.Common.{ap}
use Rattle.codec.specs.Checkpoint.{holes}
use Rattle.checkpoint.specs.Held.{of_checkpoints, part_in}
use Rattle.checkpoint.proofs.calls.read_part.Goals as goal

pub returns-in_default-clause-exact : goal.returns-in_default-clause-exact
unfolding holes
returns-in_default-clause-exact g c =
    ap (part_in (of_checkpoints c.args.object (g.B.Blocks.log c.args.table.now).held) c.args.first.now c.args.part) c.in_default.is
