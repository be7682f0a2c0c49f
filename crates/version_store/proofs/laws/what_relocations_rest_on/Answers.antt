use Rattle.version_store.proofs.laws.what_relocations_rest_on.Goals as goal

pub returns : goal.returns
returns c = record {
  row = c.a_row_is_its_own_blocks.ensures.row;
  inode = c.a_row_is_its_own_blocks.ensures.inode;
  orderly = record { blocks = c.an_orderly_row_stays.ensures.blocks; stamp = c.an_orderly_row_stays.ensures.stamp; later = c.an_orderly_row_stays.ensures.later };
  end = c.entries_determine_a_run.ensures.end;
  holes = c.a_checkpoint_is_in_its_blocks.ensures.holes;
  listed = c.what_a_chain_tells.ensures.listed;
  test = c.a_test_tells_a_renaming_apart.ensures.test;
  places = c.a_renamed_chain_tells_of_renamed_places.ensures.order;
  redo_all = c.renaming_commutes_with_undo_and_redo.ensures.redo_all;
  undo_all = c.renaming_commutes_with_undo_and_redo.ensures.undo_all;
  run = c.a_renamed_run_is_a_run.ensures.run;
  shown = c.a_renamed_run_is_a_run.ensures.shown;
  pointers = c.a_renamed_run_is_a_run.ensures.pointers;
  blank = c.a_renamed_run_is_a_run.ensures.blank;
  each = c.a_renamed_chain_takes_as_many_bytes.ensures.each;
  all = c.a_renamed_chain_takes_as_many_bytes.ensures.all;
  rules = c.a_renamed_checkpoint_keeps_the_rules.ensures;
  groups = c.renamed_entries_stay_in_order.ensures.groups;
  order = c.renamed_entries_stay_in_order.ensures.order;
  by = c.renamed_entries_stay_in_order.ensures.by;
  within = c.renamed_entries_keep_their_moments.ensures.within;
  old = c.renamed_entries_keep_their_moments.ensures.old;
  means = c.a_renamed_inode_means_the_same.ensures;
}
