use Rattle.image_objects.proofs.Writing.{can_be_written}
use Rattle.image_objects.proofs.writing_laws.an_object_of_a_version_can_be_written.Goals as goal

pub returns : goal.returns
returns c = can_be_written (record {
  listed = c.what_a_chain_tells.ensures.listed;
  ends = c.what_a_chain_tells.ensures.ends;
  holes = c.a_blank_inode_has_holes_alone.ensures.holes;
  grow = c.entries_grow_little.ensures;
})
