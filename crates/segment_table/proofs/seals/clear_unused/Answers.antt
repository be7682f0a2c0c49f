use Rattle.std.proofs.Common.{◌+◌, replicate, refl, arith}
use Rattle.segment_table.proofs.Clearing.{cleared_more}
use Rattle.segment_table.proofs.seals.clear_unused.Goals as goal

pub loop-block-preserved : goal.loop-block-preserved
loop-block-preserved c =
    cleared_more c.args.frame (c.args.used + 1) c.loop-block.block c.args.seat.now c.loop-block.seat c.store.new.self (replicate 512 0) c.requires.inside (omega arith) (omega arith) c.loop-block.invariant
    c.store.ensures.changed c.store.ensures.stored c.store.ensures.others refl
