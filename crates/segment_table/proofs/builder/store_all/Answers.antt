use Rattle.std.proofs.Common.{get_or, [], refl}
use Rattle.segment_table.proofs.Unshared.{stored_more}
use Rattle.segment_table.proofs.builder.store_all.Goals as goal

pub loop-i-preserved : goal.loop-i-preserved
loop-i-preserved c =
    stored_more c.args.frame c.loop-i.i c.args.blocks.now (get_or c.args.blocks.now c.loop-i.i []) c.args.words.now c.loop-i.words c.store_one.new.words c.requires c.loop-i-test.true c.loop-i.invariant
    c.store_one.ensures.changed c.store_one.ensures.stored c.store_one.ensures.others refl c.store_one.ensures.whole
