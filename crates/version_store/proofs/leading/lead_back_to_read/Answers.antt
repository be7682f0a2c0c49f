use Rattle.std.proofs.Common.{List, Option, subst, inl}
use Rattle.codec.specs.declared.inodes.Inode.{Inode}
use Rattle.time_read.specs.Undoings.{Undoing}
use Rattle.time_read.specs.Rows.{entries_of}
use Rattle.time_read.specs.Presents.{IsIndexOf}
use Rattle.time_read.specs.Within.{IsLedWithin}
use Rattle.undo_redo.proofs.RunLaws.{run_end}
use Rattle.time_read.proofs.Undoing.{made_by_index}
use Rattle.time_read.proofs.Within.{led_whole}
use Rattle.version_store.proofs.leading.lead_back_to_read.Goals as goal

pub returns-in_default-clause-inode : goal.returns-in_default-clause-inode
returns-in_default-clause-inode g c = led_whole c.args.needed c.args.inode.now _ c.lead_back.new.inode c.lead_back.ensures.inode

pub returns-clause-inode : goal.returns-clause-inode
returns-clause-inode g c =
    let held = (g.B.Blocks.log c.args.table.now).held in
    let row = c.args.kept.now.row in
    let told = subst (λ (x : Option (List Undoing)). IsIndexOf x (entries_of held c.args.object row)) c.in-Some.is c.requires.index in
    made_by_index run_end held c.args.object row c.args.at c.in-Some.index c.args.inode.now (λ (past : Inode). IsLedWithin c.args.needed c.args.inode.now past c.undo_past_within.new.inode) c.requires.row c.requires.present told
    c.undo_past_within.ensures

pub returns-clause-added : goal.returns-clause-added
returns-clause-added g c = λ e there. inl there
