use Rattle.std.proofs.Common.{Option, List, subst}
use Rattle.time_read.specs.Undoings.{Undoing}
use Rattle.time_read.specs.Rows.{entries_of}
use Rattle.time_read.specs.Presents.{IsIndexOf}
use Rattle.time_read.proofs.Undoing.{undone_by_index}
use Rattle.time_read.proofs.presents.Present.lead_back.Goals as goal

pub returns-clause-inode : goal.returns-clause-inode
returns-clause-inode g c =
    let held = (g.B.Blocks.log c.args.table.now).held in
    let told = subst (λ (x : Option (List Undoing)). IsIndexOf x (entries_of held c.args.object c.args.row.now)) c.in-Some.is c.requires.index in
    undone_by_index c.entries_determine_a_run.ensures.end held c.args.object c.args.row.now c.args.at c.in-Some.index c.args.inode.now c.undo_past.new.inode c.requires.row c.requires.present told c.undo_past.ensures
