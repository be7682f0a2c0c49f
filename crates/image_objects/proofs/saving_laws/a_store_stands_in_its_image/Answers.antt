use Rattle.image_objects.proofs.SavedStore.{store_stands, store_ascends}
use Rattle.image_objects.proofs.saving_laws.a_store_stands_in_its_image.Goals as goal

pub returns-clause-stand : goal.returns-clause-stand
returns-clause-stand c = store_stands (record {
  told = c.a_checkpoint_is_in_its_blocks.ensures.same;
  places = c.a_checkpoint_is_in_its_blocks.ensures.places;
  held = c.a_checkpoint_is_in_its_blocks.ensures.held;
}) c.a_row_that_is_held_stands.ensures

pub returns-clause-ascend : goal.returns-clause-ascend
returns-clause-ascend c = store_ascends
