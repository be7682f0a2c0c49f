use Rattle.time_read.proofs.Cached.{adds_fewer, found_is, adds_read}
use Rattle.time_read.proofs.starts.newest_inode.Goals as goal

pub returns-in-Some-clause-inode : goal.returns-in-Some-clause-inode
returns-in-Some-clause-inode g c =
    let held = (g.B.Blocks.log c.args.table.now).held in
    found_is held c.args.object c.args.row.now c.args.place c.args.cache.now.pairs c.get.result c.in-Some.inode c.requires.named c.requires.cached c.in-Some.is c.get.ensures.found

pub returns-in-Some-clause-kept : goal.returns-in-Some-clause-kept
returns-in-Some-clause-kept g c = adds_fewer (g.B.Blocks.log c.args.table.now).held c.args.object c.args.row.now c.args.cache.now.pairs c.get.new.self.pairs c.get.ensures.only

pub returns-clause-kept : goal.returns-clause-kept
returns-clause-kept g c =
    adds_read (g.B.Blocks.log c.args.table.now).held c.args.object c.args.row.now c.args.place c.args.cache.now.pairs c.get.new.self.pairs c.read_and_keep.new.cache.pairs c.read_and_keep.result c.requires.named c.requires.there c.read_and_keep.ensures.inode
    c.get.ensures.only c.read_and_keep.ensures.kept
