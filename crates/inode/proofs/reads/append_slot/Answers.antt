use Rattle.std.proofs.Common.{◌+◌, ◌-◌, arith, vec_len}
use Rattle.inode.specs.Contents.{contents_of}
use Rattle.inode.proofs.ReadBytes.{block_added, hole_added}
use Rattle.inode.proofs.reads.append_slot.Goals as goal

pub returns-in_default-clause-bytes : goal.returns-in_default-clause-bytes
returns-in_default-clause-bytes g c =
    hole_added (contents_of (g.B.Blocks.log c.args.table.now).held) c.args.slot c.args.bytes.now.items _ c.args.from (c.args.to - c.args.from) (c.len.result + (c.args.to - c.args.from))
    (c.len.result + (c.args.to - c.args.from) - vec_len c.args.bytes.now) c.in_default.is (omega (arith, c.len.ensures, c.args.bytes.now.ok.0)) (omega (arith, c.len.ensures)) c.in_ok-resize.ensures.items

pub returns-clause-bytes : goal.returns-clause-bytes
returns-clause-bytes g c =
    block_added (g.B.Blocks.log c.args.table.now).held c.args.slot c.in-Some.place c.args.bytes.now.items _ c.args.from (c.args.to - c.args.from) c.in-Some.is (c.requires.held c.in-Some.place c.in-Some.is)
    c.in_ok-get_bytes.ensures.bytes c.in_ok-get_bytes.ensures.added
