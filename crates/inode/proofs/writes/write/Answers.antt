use Rattle.std.proofs.Common.{length}
use Rattle.inode.proofs.Frames.{lead}
use Rattle.inode.proofs.WriteLemmas.{is_written, write_means, write_tidy, write_held}
use Rattle.inode.proofs.writes.write.Goals as goal

pub write_blocks-requires-clause-lead : goal.write_blocks-requires-clause-lead
write_blocks-requires-clause-lead g c = lead (g.B.Blocks.log c.args.table.now).held c.args.object c.args.inode.now c.requires.pointers

pub returns-clause-inode : goal.returns-clause-inode
returns-clause-inode g c = is_written (g.B.Blocks.log c.args.table.now).ahead c.args.moment c.args.offset (length c.args.bytes.now) c.args.inode.now c.write_blocks.new.next c.size_after-next.result c.write_blocks.ensures.rest c.write_blocks.ensures.pointers c.size_after-next.ensures

pub returns-clause-meaning : goal.returns-clause-meaning
returns-clause-meaning g c =
    let held = lead (g.B.Blocks.log c.args.table.now).held c.args.object c.args.inode.now c.requires.pointers in
    let inode = is_written (g.B.Blocks.log c.args.table.now).ahead c.args.moment c.args.offset (length c.args.bytes.now) c.args.inode.now c.write_blocks.new.next c.size_after-next.result c.write_blocks.ensures.rest c.write_blocks.ensures.pointers c.size_after-next.ensures in
    write_means c.args.object c.args.moment c.args.offset c.args.bytes.now c.args.inode.now _ (g.B.Blocks.log c.args.table.now) (g.B.Blocks.log c.write_blocks.new.table) c.write_blocks.ensures.growth inode c.requires.tidy held

pub returns-clause-tidy : goal.returns-clause-tidy
returns-clause-tidy g c =
    let held = lead (g.B.Blocks.log c.args.table.now).held c.args.object c.args.inode.now c.requires.pointers in
    let inode = is_written (g.B.Blocks.log c.args.table.now).ahead c.args.moment c.args.offset (length c.args.bytes.now) c.args.inode.now c.write_blocks.new.next c.size_after-next.result c.write_blocks.ensures.rest c.write_blocks.ensures.pointers c.size_after-next.ensures in
    write_tidy c.args.object c.args.moment c.args.offset c.args.bytes.now c.args.inode.now _ (g.B.Blocks.log c.args.table.now) (g.B.Blocks.log c.write_blocks.new.table) c.write_blocks.ensures.growth inode c.requires.tidy held c.requires.end c.write_blocks.ensures.count

pub returns-clause-pointers : goal.returns-clause-pointers
returns-clause-pointers g c =
    let inode = is_written (g.B.Blocks.log c.args.table.now).ahead c.args.moment c.args.offset (length c.args.bytes.now) c.args.inode.now c.write_blocks.new.next c.size_after-next.result c.write_blocks.ensures.rest c.write_blocks.ensures.pointers c.size_after-next.ensures in
    write_held c.args.object c.args.moment c.args.offset c.args.bytes.now c.args.inode.now _ (g.B.Blocks.log c.args.table.now) (g.B.Blocks.log c.write_blocks.new.table) c.write_blocks.ensures.growth inode c.requires.pointers
