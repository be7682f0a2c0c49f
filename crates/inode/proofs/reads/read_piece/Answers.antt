use Rattle.std.proofs.Common.{◌-◌, ◌*◌, ◌/◌, refl, arith}
use Rattle.inode.specs.Contents.{contents_of}
use Rattle.inode.proofs.ReadBytes.{piece_added}
use Rattle.inode.proofs.reads.read_piece.Goals as goal

pub returns-clause-bytes : goal.returns-clause-bytes
returns-clause-bytes g c =
    let next = c.min-next.ensures in
    piece_added (contents_of (g.B.Blocks.log c.args.table.now).held) c.args.inode.now c.slot_of.result c.args.bytes.now.items _ (c.args.at / 512) c.args.at c.min-next.result (c.args.at - c.args.at / 512 * 512)
    (c.min-next.result - c.args.at / 512 * 512 - (c.args.at - c.args.at / 512 * 512))
    c.slot_of.ensures refl (omega (arith, next, c.requires.start)) (omega (arith, next)) (omega arith) (omega (arith, next, c.requires.start)) c.in_ok-append_slot.ensures.bytes
