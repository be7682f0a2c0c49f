use Rattle.std.proofs.Common.{◌∙◌}
use Rattle.row_changes.proofs.Places.{CheckpointLaws}
use Rattle.row_changes.proofs.Bared.{dropping, next_dropped}
use Rattle.row_changes.proofs.checkpoints.drop_each.Given.{Over}
use Rattle.row_changes.proofs.checkpoints.drop_each.Goals.{After-a_checkpoint_is_in_its_blocks}
use Rattle.row_changes.proofs.checkpoints.drop_each.Goals as goal

laws : (g : Over) (c : After-a_checkpoint_is_in_its_blocks g) → CheckpointLaws
laws g c = record {
  told = c.a_checkpoint_is_in_its_blocks.ensures.same;
  places = c.a_checkpoint_is_in_its_blocks.ensures.places;
  held = c.a_checkpoint_is_in_its_blocks.ensures.held;
}

pub drop_checkpoint-requires : goal.drop_checkpoint-requires
drop_checkpoint-requires g c =
    let sides = c.as_slice-sides.result.now in
    let side = c.side-item.result in
    let was = dropping (laws g (goal.at.drop_checkpoint-requires g c).After-a_checkpoint_is_in_its_blocks) c.a_checkpoint_is_in_its_blocks.ensures.apart (g.B.Blocks.log c.args.table.now).held (g.B.Blocks.log c.loop-side.table).held c.args.object c.args.row.now sides c.loop-side.side-index side side
    c.requires.row c.as_slice-sides.ensures.value c.loop-side-test.true c.side-item.is c.loop-side.invariant.dropped in
    record { held = was.there }

pub loop-side-preserved : goal.loop-side-preserved
loop-side-preserved g c =
    let sides = c.as_slice-sides.result.now in
    let side = c.side-item.result in
    let first = (g.B.Blocks.log c.args.table.now) in
    let now = (g.B.Blocks.log c.loop-side.table) in
    let next = (g.B.Blocks.log c.drop_checkpoint.new.table) in
    let was = dropping (laws g (goal.at.loop-side-preserved g c).After-a_checkpoint_is_in_its_blocks) c.a_checkpoint_is_in_its_blocks.ensures.apart first.held now.held c.args.object c.args.row.now sides c.loop-side.side-index side side
    c.requires.row c.as_slice-sides.ensures.value c.loop-side-test.true c.side-item.is c.loop-side.invariant.dropped in
    record {
      dropped = next_dropped first.held now.held next.held c.args.object sides c.loop-side.side-index side side c.loop-side-test.true c.side-item.is was c.drop_checkpoint.ensures.dropped;
      named = c.drop_checkpoint.ensures.named ∙ c.loop-side.invariant.named;
      takes = g.met.B.Blocks.places_taken_add_up 0 0 first now next c.loop-side.invariant.takes c.drop_checkpoint.ensures.takes;
    }
