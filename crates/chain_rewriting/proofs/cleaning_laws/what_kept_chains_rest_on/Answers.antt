use Rattle.chain_rewriting.proofs.cleaning_laws.what_kept_chains_rest_on.Goals as goal

pub returns : goal.returns
returns c = record {
  redoes = λ i j e l. ((c.a_link_is_an_entry_redone_or_undone.ensures.forth i j e).0 l).1;
  one = c.the_entries_between_two_inodes.ensures.moments;
  between = c.the_entries_between_two_inodes.ensures.run;
  ends = c.entries_determine_a_run.ensures.end;
  done = c.entries_determine_a_run.ensures.done;
  later = c.entries_determine_a_run.ensures.later;
  joined = c.entries_determine_a_run.ensures.shown;
  ascend = c.groups_part_at_a_moment.ensures.ascend;
}
