use Rattle.time_read.proofs.Undone.{undoes}
use Rattle.time_read.proofs.undo_laws.an_undoing_undoes_its_entry.Goals as goal

pub returns : goal.returns
returns c = undoes
