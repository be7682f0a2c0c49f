use Rattle.version_store.proofs.Cutting.{Laws, can_cut, cut_shows}
use Rattle.version_store.proofs.laws.a_journal_is_cut.Goals.{After-a_row_keeps_the_making}
use Rattle.version_store.proofs.laws.a_journal_is_cut.Goals as goal

laws : After-a_row_keeps_the_making → Laws
laws c = record {
  done = c.entries_determine_a_run.ensures.done;
  end = c.entries_determine_a_run.ensures.end;
  begin = c.entries_determine_a_run.ensures.beginning;
  redone_join = c.entries_determine_a_run.ensures.joined;
  inode_join = c.entries_determine_a_run.ensures.shown;
  parts = c.groups_part_at_a_moment.ensures.parts;
  behind = c.groups_part_at_a_moment.ensures.after;
  groups = c.groups_part_at_a_moment.ensures.back;
  ascend = c.groups_part_at_a_moment.ensures.ascend;
  making = c.a_row_keeps_the_making.ensures;
}

pub returns-clause-can : goal.returns-clause-can
returns-clause-can c = can_cut (laws (goal.at.returns-clause-can c).After-a_row_keeps_the_making)

pub returns-clause-shows : goal.returns-clause-shows
returns-clause-shows c = cut_shows (laws (goal.at.returns-clause-shows c).After-a_row_keeps_the_making)
