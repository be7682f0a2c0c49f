use Rattle.history_cleaner.proofs.laws.chains_are_runs.Goals as goal

pub returns : goal.returns
returns c = record {
  run = record {
    ends = c.entries_determine_a_run.ensures.end;
    begins = c.entries_determine_a_run.ensures.beginning;
    done = c.entries_determine_a_run.ensures.done;
    since = c.entries_determine_a_run.ensures.since;
  };
  later = c.a_chain_is_one_later.ensures;
  is_run = c.a_kept_chain_is_a_run.ensures;
}
