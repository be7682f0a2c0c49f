use Rattle.row_changes.proofs.Mapped.{Maps, row_can, row_begins, mapped_can, begins_mapped}
use Rattle.row_changes.proofs.laws.what_a_row_tells_can_be_written.Goals as goal

pub returns : goal.returns
returns c =
    let laws : Maps = record {
      redo = c.mapping_commutes_with_undo_and_redo.ensures.redo_all;
      run = c.a_mapped_run_is_a_run.ensures.run;
      shown = c.a_mapped_run_is_a_run.ensures.shown;
      first = c.a_mapped_run_is_a_run.ensures.first;
      groups = c.mapped_entries_stay_in_order.ensures.groups;
      bytes = c.a_mapped_chain_takes_as_many_bytes.ensures.all;
      rules = c.a_mapped_chain_takes_as_many_bytes.ensures.checkpoint;
    } in
    record {
      row = row_can c.entries_determine_a_run.ensures.end;
      first = row_begins;
      mapped = mapped_can laws;
      begins = begins_mapped laws;
    }
