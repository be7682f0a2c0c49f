use Rattle.row_changes.proofs.CheckpointLemmas.{kept_is}
use Rattle.row_changes.proofs.moves.standing_blocks.Goals as goal

pub returns-in-Some-clause-blocks : goal.returns-in-Some-clause-blocks
returns-in-Some-clause-blocks g c =
    kept_is c.a_checkpoint_is_in_its_blocks.ensures.placed (g.B.Blocks.log c.args.table.now).held c.args.object c.args.row.now c.in-Some.place c.placed_blocks.result c.in-Some.is c.requires c.placed_blocks.ensures.blocks
