use Rattle.std.proofs.Common.{◌*◌, ◌<◌, ◌≤◌, length, sym, ◌∙◌, arith}
use Rattle.version_store.proofs.Costing.{past_start, past_some, past_hole}
use Rattle.version_store.proofs.costs.blocks_past.Goals as goal
use Rattle.version_store.proofs.costs.blocks_past.Goals.{then-is_some, else-is_some}

pub loop-index-init : goal.loop-index-init
loop-index-init c =
    let start = past_start c.args.inode.now c.args.size c.div_ceil-first.result c.div_ceil-first.ensures in
    record { counted = start.0; from = start.1 }

pub loop-index-preserved : goal.loop-index-preserved
loop-index-preserved c =
    let from : c.args.size ≤ 512 * c.loop-index.index = c.loop-index.invariant.from in
    let below : c.loop-index.index < length c.args.inode.now.pointers = omega (arith, c.loop-index-test.true, c.requires.count) in
    elim c.if-is_some.branch [
      | then-is_some w ↦ record {
        counted = w.count-is ∙ past_some c.args.inode.now c.args.size c.loop-index.index c.loop-index.count c.index-inode-index.result from below (sym c.is_some.ensures ∙ w.if-is_some.true) c.loop-index.invariant.counted;
        from = omega (arith, from);
      }
      | else-is_some w ↦ record {
        counted = w.count-is ∙ past_hole c.args.inode.now c.args.size c.loop-index.index c.loop-index.count c.index-inode-index.result from below (sym c.is_some.ensures ∙ w.if-is_some.false) c.loop-index.invariant.counted;
        from = omega (arith, from);
      }
    ]
