use Rattle.image_objects.proofs.Kept.{row_there, row_found, no_row, none_above}
use Rattle.image_objects.proofs.Standing.{held_as_used}
use Rattle.image_objects.proofs.Storing.{make_a_store}
use Rattle.image_objects.proofs.Told.{rows_tell_few}
use Rattle.image_objects.proofs.laws.rows_that_stand_make_a_store.Goals as goal

pub returns : goal.returns
returns c =
    let object = held_as_used (record {
      told = c.a_checkpoint_is_in_its_blocks.ensures.same;
      chain = c.a_chain_that_stands_is_held.ensures;
      entries = c.a_chain_is_in_its_journal_blocks.ensures.entries;
      row = c.a_version_chain_that_stands_is_a_row.ensures.row;
      orderly = c.a_version_chain_that_stands_is_a_row.ensures.order;
      by = c.an_orderly_row_is_by_its_moment.ensures;
      last = c.the_last_inode_is_current.ensures;
      matter = c.only_its_blocks_matter.ensures;
      points = c.inodes_used_point_to_what_rows_lead_to.ensures;
    }) in
    record {
      listed = λ used rows clock row ascend there. row_there used clock 0 0 rows row ascend there;
      only = row_found;
      none = no_row;
      above = none_above;
      object = object;
      few = λ used held rows clock p ascend stand holds.
          rows_tell_few c.one_place_has_one_name.ensures c.a_checkpoint_is_in_its_blocks.ensures.same c.places_have_few_names.ensures.rows used held rows clock p ascend stand holds
          (λ row there. object used held rows row clock 0 ascend stand holds there);
      store = make_a_store c.one_place_has_one_name.ensures c.a_checkpoint_is_in_its_blocks.ensures.same object;
    }
