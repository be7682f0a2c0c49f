use Rattle.image_objects.proofs.SavedObject.{object_stands}
use Rattle.image_objects.proofs.saving_laws.a_row_that_is_held_stands.Goals as goal

pub returns : goal.returns
returns c = object_stands (record {
  checkpoints = record {
    told = c.a_checkpoint_is_in_its_blocks.ensures.same;
    places = c.a_checkpoint_is_in_its_blocks.ensures.places;
    held = c.a_checkpoint_is_in_its_blocks.ensures.held;
  };
  packing = c.packing_keeps_the_rule.ensures.packed;
  end = c.entries_determine_a_run.ensures.end;
  making = c.a_row_keeps_the_making.ensures;
  later = c.an_orderly_row_stays.ensures.later;
  matter = c.only_its_blocks_matter.ensures;
})
