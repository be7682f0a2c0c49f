use Rattle.time_read.proofs.Reading.{few_in_head}
use Rattle.time_read.proofs.Undoing.{is_left, all_left, groups_left, undone_is}
use Rattle.journal_chain.specs.Back.{left}
use Rattle.time_read.proofs.inodes.inode_before.Goals as goal

pub of-chain-requires-clause-one_block : goal.of-chain-requires-clause-one_block
of-chain-requires-clause-one_block g c = few_in_head (g.B.Blocks.log c.args.table.now).held c.args.object c.args.row.now c.packing_keeps_the_rule.ensures.packed c.requires.row

pub undo_past-requires-clause-there : goal.undo_past-requires-clause-there
undo_past-requires-clause-there g c =
    let held = (g.B.Blocks.log c.args.table.now).held in
    is_left held c.args.object c.args.row.now c.of-chain.result c.entries_back-back.result c.requires.row c.of-chain.ensures (c.entries_back-back.ensures held)

pub undo_past-requires-clause-groups : goal.undo_past-requires-clause-groups
undo_past-requires-clause-groups g c =
    let held = (g.B.Blocks.log c.args.table.now).held in
    groups_left held c.args.object c.args.row.now c.of-chain.result c.entries_back-back.result c.requires.row c.of-chain.ensures (c.entries_back-back.ensures held)

pub returns-clause-inode : goal.returns-clause-inode
returns-clause-inode g c =
    let held = (g.B.Blocks.log c.args.table.now).held in
    let is = all_left held c.args.object c.args.row.now c.of-chain.result c.entries_back-back.result c.requires.row c.of-chain.ensures (c.entries_back-back.ensures held) in
    undone_is c.entries_determine_a_run.ensures.end held c.args.object c.args.row.now (left held c.entries_back-back.result) c.args.at c.args.present.now c.undo_past.new.inode c.requires.row is c.requires.present c.undo_past.ensures.inode
