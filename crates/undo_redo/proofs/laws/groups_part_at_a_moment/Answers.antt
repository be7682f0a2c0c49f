use Rattle.undo_redo.proofs.GroupLaws.{grouped_join, grouped_front, grouped_back, grouped_ascends}
use Rattle.undo_redo.proofs.RunLaws.{by_and_past, run_at, last_undone, last_stays}
use Rattle.undo_redo.proofs.laws.groups_part_at_a_moment.Goals as goal

pub returns : goal.returns
returns c = record {
  join = grouped_join;
  front = grouped_front;
  back = grouped_back;
  ascend = grouped_ascends;
  parts = by_and_past;
  before = λ i k entries low t h r. (run_at i k entries low t h r).0;
  after = λ i k entries low t h r. (run_at i k entries low t h r).1;
  undone = last_undone;
  stays = last_stays;
}
