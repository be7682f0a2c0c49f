use Rattle.row_changes.proofs.Places.{CheckpointLaws, older_there, checkpoint_alone, none_left}
use Rattle.row_changes.proofs.checkpoints.drop_named.Goals as goal

pub drop_checkpoint-requires : goal.drop_checkpoint-requires
drop_checkpoint-requires g c =
    let known : CheckpointLaws = record {
      told = c.a_checkpoint_is_in_its_blocks.ensures.same;
      places = c.a_checkpoint_is_in_its_blocks.ensures.places;
      held = c.a_checkpoint_is_in_its_blocks.ensures.held;
    } in
    record { held = older_there known (g.B.Blocks.log c.args.table.now).held c.args.object c.args.row.now c.requires.row }

pub returns-clause-gone : goal.returns-clause-gone
returns-clause-gone g c =
    let held = (g.B.Blocks.log c.args.table.now).held in
    let o = c.args.object in
    let row = c.args.row.now in
    none_left held (g.B.Blocks.log c.drop_checkpoint.new.table).held o row.checkpoint c.drop_checkpoint.ensures.dropped (checkpoint_alone held o row c.requires.row c.requires.sides)
