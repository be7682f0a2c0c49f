use Rattle.migration.specs.Moves.{moved_by, is_moved}
use Rattle.migration.proofs.copy_laws.a_copied_object_keeps_its_history.Goals as goal

pub returns-clause-moved : goal.returns-clause-moved
returns-clause-moved c moves = record {
  one = c.one_place_has_one_name.ensures;
  add_up = c.places_taken_add_up.ensures;
  listed = c.what_a_chain_tells.ensures.listed;
  points = c.what_a_chain_tells.ensures.points;
  begins = c.what_a_row_tells_can_be_written.ensures.begins;
  shown = c.a_mapped_run_is_a_run.ensures.shown (moved_by moves);
  pointers = c.a_mapped_run_is_a_run.ensures.pointers (moved_by moves);
  in_order = c.mapped_entries_stay_in_order.ensures.order (moved_by moves);
  tells = c.a_mapped_chain_tells_of_mapped_places.ensures.order (moved_by moves);
  same = c.a_mapped_chain_shows_the_same.ensures.chain (is_moved moves) (moved_by moves);
  bytes = c.a_mapped_chain_takes_as_many_bytes.ensures.all (moved_by moves);
  each = c.a_mapped_chain_takes_as_many_bytes.ensures.each (moved_by moves);
  holes = c.a_checkpoint_is_in_its_blocks.ensures.holes;
  by = c.an_orderly_row_is_by_its_moment.ensures;
}

pub returns-clause-fresh : goal.returns-clause-fresh
returns-clause-fresh c = c.a_fresh_row_stands.ensures.row

pub returns-clause-written : goal.returns-clause-written
returns-clause-written c = c.what_a_row_tells_can_be_written.ensures.mapped
