use Rattle.undo_redo.proofs.RunLaws.{run_end, run_beginning, run_join, run_part, redone_all-append, run_created, all_done, later_nothing, since_last, after-append}
use Rattle.undo_redo.proofs.laws.entries_determine_a_run.Goals as goal

pub returns : goal.returns
returns c = record {
  end = run_end;
  beginning = run_beginning;
  join = run_join;
  part = run_part;
  joined = redone_all-append;
  making = run_created;
  done = all_done;
  later = later_nothing;
  since = since_last;
  shown = after-append;
}
