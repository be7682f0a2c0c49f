use Rattle.row_changes.proofs.laws.later_entries_join_a_row.Goals as goal

pub returns : goal.returns
returns c = record {
  end = c.entries_determine_a_run.ensures.end;
  join = c.entries_determine_a_run.ensures.join;
  done = c.entries_determine_a_run.ensures.done;
  later = c.entries_determine_a_run.ensures.later;
  since = c.entries_determine_a_run.ensures.since;
  joined = c.entries_determine_a_run.ensures.shown;
  groups = c.groups_part_at_a_moment.ensures.join;
  chain = c.a_chain_is_in_its_journal_blocks.ensures.entries;
  newest = c.a_row_tells_a_chain.ensures.newest;
}
