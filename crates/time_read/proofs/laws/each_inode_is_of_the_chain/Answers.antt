use Rattle.std.proofs.Common.{length}
use Rattle.undo_redo.specs.Runs.{entries_by}
use Rattle.time_read.specs.Rows.{entries_of}
use Rattle.time_read.proofs.Ordering.{is_behind, is_current, changed_in}
use Rattle.time_read.proofs.laws.each_inode_is_of_the_chain.Goals as goal

pub returns : goal.returns
returns c =
    let behind = is_behind c.groups_part_at_a_moment.ensures.ascend c.groups_part_at_a_moment.ensures.parts in
    record {
      behind = behind;
      current = is_current c.entries_determine_a_run.ensures.done c.entries_determine_a_run.ensures.later;
      changed = λ held o row t latest r h alive. changed_in held o row t latest (length (entries_by t (entries_of held o row))) (behind held o row t r) h alive;
    }
