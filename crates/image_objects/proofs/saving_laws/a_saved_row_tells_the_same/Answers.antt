use Rattle.image_objects.proofs.Saving.{saved_as_held}
use Rattle.image_objects.proofs.saving_laws.a_saved_row_tells_the_same.Goals as goal

pub returns : goal.returns
returns c = saved_as_held (record {
  told = c.a_checkpoint_is_in_its_blocks.ensures.same;
  places = c.a_checkpoint_is_in_its_blocks.ensures.places;
  held = c.a_checkpoint_is_in_its_blocks.ensures.held;
})
