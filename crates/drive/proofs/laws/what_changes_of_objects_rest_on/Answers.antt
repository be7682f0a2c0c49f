use Rattle.drive.proofs.laws.what_changes_of_objects_rest_on.Goals as goal

pub returns : goal.returns
returns c = record {
  present = c.the_present_stays.ensures;
  count = c.bytes_are_the_blocks_joined.ensures.count;
  by_changes = c.histories_go_on_record_by_record.ensures.by_changes;
  steps = c.histories_go_on_record_by_record.ensures.steps;
  audit = c.histories_go_on_record_by_record.ensures.audit;
}
