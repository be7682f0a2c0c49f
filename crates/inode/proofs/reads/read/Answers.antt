use Rattle.std.proofs.Common.{◌∙◌, ◌-◌, ap, refl, arith}
use Rattle.inode.specs.Contents.{contents_of, byte_of, listed}
use Rattle.inode.proofs.ReadBytes.{nothing_read, more_read, read_is}
use Rattle.inode.proofs.reads.read.Goals as goal

pub loop-at-init : goal.loop-at-init
loop-at-init g c = record {
  low = omega arith;
  high = omega arith;
  bytes = nothing_read (byte_of (contents_of (g.B.Blocks.log c.args.table.now).held) c.args.inode.now) c.args.offset (c.args.offset - c.args.offset) c.in_ok-bytes.bytes.items c.in_ok-bytes.ensures.items (omega arith);
  same = refl;
}

pub loop-at-preserved : goal.loop-at-preserved
loop-at-preserved g c =
    let within = c.in_ok-at.ensures.within in
    let later = c.in_ok-at.ensures.later in
    let low = c.loop-at.invariant.low in
    record {
      low = omega (arith, low, later);
      high = within;
      bytes = more_read (byte_of (contents_of (g.B.Blocks.log c.args.table.now).held) c.args.inode.now) c.args.offset c.loop-at.at c.in_ok-at.at c.loop-at.bytes.items _ c.read_piece.new.bytes.items c.loop-at.invariant.bytes low (omega (arith, later))
          (ap (λ log. listed (byte_of (contents_of log.held) c.args.inode.now) c.loop-at.at (c.in_ok-at.at - c.loop-at.at)) c.loop-at.invariant.same) c.in_ok-at.ensures.bytes;
      same = c.in_ok-at.ensures.same ∙ c.loop-at.invariant.same;
    }

pub returns-clause-ok : goal.returns-clause-ok
returns-clause-ok g c =
    let count = c.min-count.ensures in
    let left = c.saturating_sub-left.ensures in
    let high = c.loop-at.invariant.high in
    let low = c.loop-at.invariant.low in
    let past = c.loop-at-test.false in
    read_is (contents_of (g.B.Blocks.log c.args.table.now).held) c.args.inode.now c.args.offset c.args.len (c.loop-at.at - c.args.offset) c.loop-at.bytes.items c.loop-at.invariant.bytes (omega (arith, count, left, high, low, past))
