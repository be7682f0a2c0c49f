use Rattle.image_objects.proofs.SavedStore.{holds_what_is_named}
use Rattle.image_objects.proofs.saving_laws.what_is_held_is_what_saved_rows_name.Goals as goal

pub returns : goal.returns
returns c = holds_what_is_named (record {
  told = c.a_checkpoint_is_in_its_blocks.ensures.same;
  places = c.a_checkpoint_is_in_its_blocks.ensures.places;
  held = c.a_checkpoint_is_in_its_blocks.ensures.held;
}) c.what_is_held_is_what_rows_name.ensures.exact c.what_is_held_is_what_rows_name.ensures.block
