use Rattle.std.proofs.Common.{◌≡◌, ◌/◌, length, refl, sym, subst, arith, ◌∙◌, length-set}
use Rattle.s4_types.specs.declared.limits.TheConstants.{OBJECT_BLOCKS}
use Rattle.codec.specs.declared.inodes.Inode.{Inode}
use Rattle.inode.specs.Contents.{contents_of}
use Rattle.inode.specs.Changed.{byte_written}
use Rattle.inode.proofs.Touching.{touched_within}
use Rattle.inode.proofs.Stepping.{Upto, upto-none, upto-room, write-more, rest_more}
use Rattle.inode.proofs.writes.write_blocks.Goals as goal

pub loop-index-init : goal.loop-index-init
loop-index-init g c = record {
  upto = subst (λ (i : Inode). Upto c.args.object (byte_written (contents_of (g.B.Blocks.log c.args.table.now).held) c.args.inode.now c.args.offset c.args.bytes.now) c.args.inode.now (c.args.offset / 512) (c.args.offset / 512) (g.B.Blocks.log c.args.table.now) (g.B.Blocks.log c.args.table.now) i.pointers) (sym c.requires.copy)
      (upto-none c.args.object (byte_written (contents_of (g.B.Blocks.log c.args.table.now).held) c.args.inode.now c.args.offset c.args.bytes.now) c.args.inode.now (c.args.offset / 512) (g.B.Blocks.log c.args.table.now));
  count = subst (λ (i : Inode). length i.pointers ≡ OBJECT_BLOCKS) (sym c.requires.copy) c.requires.count;
  rest = subst (λ (i : Inode). i ≡ record c.args.inode.now { pointers = i.pointers }) (sym c.requires.copy) refl;
}

pub write_block-place-requires-clause-low : goal.write_block-place-requires-clause-low
write_block-place-requires-clause-low g c = (touched_within c.args.offset (length c.args.bytes.now) c.loop-index.index (omega arith) (omega (arith, c.blocks_of_write-count.ensures))).1.0

pub write_block-place-requires-clause-high : goal.write_block-place-requires-clause-high
write_block-place-requires-clause-high g c = (touched_within c.args.offset (length c.args.bytes.now) c.loop-index.index (omega arith) (omega (arith, c.blocks_of_write-count.ensures))).1.1

pub write_block-place-requires-clause-room : goal.write_block-place-requires-clause-room
write_block-place-requires-clause-room g c =
    upto-room c.args.object (byte_written (contents_of (g.B.Blocks.log c.args.table.now).held) c.args.inode.now c.args.offset c.args.bytes.now) c.args.inode.now (c.args.offset / 512) c.loop-index.index (g.B.Blocks.log c.args.table.now) (g.B.Blocks.log c.loop-index.table) c.loop-index.next.pointers
    c.loop-index.invariant.upto (omega (arith, c.requires.room, c.blocks_of_write-count.ensures))

pub loop-index-preserved : goal.loop-index-preserved
loop-index-preserved g c =
    let within = touched_within c.args.offset (length c.args.bytes.now) c.loop-index.index (omega arith) (omega (arith, c.blocks_of_write-count.ensures)) in
    record {
      upto = write-more c.args.object c.args.offset c.args.bytes.now c.args.inode.now (c.args.offset / 512) c.loop-index.index (g.B.Blocks.log c.args.table.now) (g.B.Blocks.log c.loop-index.table) (g.B.Blocks.log c.write_block-place.new.table) c.loop-index.next.pointers c.write_block-place.result
          c.loop-index.invariant.upto c.requires.lead c.write_block-place.ensures.log (omega arith) (omega (arith, within.1.1)) c.write_block-place.ensures.place c.write_block-place.ensures.fresh;
      count = length-set {A = _} c.loop-index.next.pointers c.loop-index.index _ ∙ c.loop-index.invariant.count;
      rest = rest_more c.args.inode.now c.loop-index.next _ c.loop-index.invariant.rest;
    }
