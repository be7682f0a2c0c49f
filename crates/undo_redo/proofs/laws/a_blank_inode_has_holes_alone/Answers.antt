use Rattle.undo_redo.proofs.ComposeLaws.{blank_count, blank_holes}
use Rattle.undo_redo.proofs.laws.a_blank_inode_has_holes_alone.Goals as goal

pub returns : goal.returns
returns c = record { count = blank_count; holes = blank_holes }
