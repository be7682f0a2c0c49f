use Rattle.history_restore.proofs.laws.what_requests_come_to.Goals as goal

pub returns : goal.returns
returns c = record {
  by_moments = c.histories_go_on_record_by_record.ensures.by_moments;
  by_changes = c.histories_go_on_record_by_record.ensures.by_changes;
  acts = c.a_change_acts_at_its_moment.ensures.acts;
  of_one = c.a_flush_hides_exactly_its_span.ensures.of_one;
}
