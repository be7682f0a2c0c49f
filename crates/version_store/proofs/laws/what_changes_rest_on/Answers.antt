use Rattle.version_store.proofs.laws.what_changes_rest_on.Goals as goal

pub returns : goal.returns
returns c = record {
  row = c.a_row_is_its_own_blocks.ensures.row;
  inode = c.a_row_is_its_own_blocks.ensures.inode;
  journal = c.a_row_is_by_later_moments.ensures.journal;
  later = c.a_row_is_by_later_moments.ensures.later;
  last = c.the_last_inode_stays.ensures;
  making = c.a_row_keeps_the_making.ensures;
  orderly = record { blocks = c.an_orderly_row_stays.ensures.blocks; stamp = c.an_orderly_row_stays.ensures.stamp; later = c.an_orderly_row_stays.ensures.later };
  meaning = c.only_its_blocks_matter.ensures;
  pointers_lead = c.held_pointers_lead.ensures;
  one_place = c.one_place_has_one_name.ensures;
  places_add_up = c.places_taken_add_up.ensures;
  fresh_row = c.a_fresh_row_stands.ensures.row;
  fresh_latest = c.a_fresh_row_stands.ensures.latest;
  fresh_inode = c.a_fresh_row_stands.ensures.inode;
  blank_count = c.a_blank_inode_has_holes_alone.ensures.count;
  blank_holes = c.a_blank_inode_has_holes_alone.ensures.holes;
  entry_count = c.the_entries_between_two_inodes.ensures.count;
  entry_sizes = c.the_entries_between_two_inodes.ensures.sizes;
  entry_pointers = c.the_entries_between_two_inodes.ensures.pointers;
  entry_moments = c.the_entries_between_two_inodes.ensures.moments;
  sizes_add_up = c.bytes_add_up.ensures.sizes;
  blocks_are_needed = c.chains_are_short.ensures.least;
  checkpoint_blocks = c.a_checkpoint_is_in_its_blocks.ensures.some;
  groups_ascend = c.groups_part_at_a_moment.ensures.ascend;
  end = c.entries_determine_a_run.ensures.end;
  done = c.entries_determine_a_run.ensures.done;
}
