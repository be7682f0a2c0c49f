use Rattle.undo_redo.proofs.LinkLaws.{forth, back, one_next, one_previous}
use Rattle.undo_redo.proofs.laws.a_link_is_an_entry_redone_or_undone.Goals as goal

pub returns : goal.returns
returns c = record { forth = forth; back = back; next = one_next; previous = one_previous }
