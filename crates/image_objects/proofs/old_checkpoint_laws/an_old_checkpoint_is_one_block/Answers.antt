use Rattle.image_objects.proofs.OldCheckpoints.{one_block}
use Rattle.image_objects.proofs.old_checkpoint_laws.an_old_checkpoint_is_one_block.Goals as goal

pub returns : goal.returns
returns c = one_block (record {
  first_begins = c.blocks_have_their_parts.ensures.first_begins;
  part_begins = c.blocks_have_their_parts.ensures.part_begins;
  part = c.blocks_have_their_parts.ensures.part;
  parts = c.blocks_have_their_parts.ensures.parts;
})
