use Rattle.version_store.proofs.Naming.{held_is_named, block_is_named, row_checkpoints_there}
use Rattle.version_store.proofs.laws.what_is_held_is_what_rows_name.Goals as goal

pub returns : goal.returns
returns c = record {
  exact = held_is_named c.one_place_has_one_name.ensures c.a_checkpoint_is_in_its_blocks.ensures.held;
  block = block_is_named c.one_place_has_one_name.ensures c.a_checkpoint_is_in_its_blocks.ensures.held;
  checkpoints = row_checkpoints_there c.a_checkpoint_is_in_its_blocks.ensures.held;
}
