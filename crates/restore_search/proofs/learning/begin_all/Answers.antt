use Rattle.std.proofs.Common.{◌∙◌, sym}
use Rattle.restore_search.proofs.Knowing.{begins_on, one_at}
use Rattle.restore_search.proofs.learning.begin_all.Goals as goal
use Rattle.restore_search.proofs.learning.begin_all.Goals.{then-is_begun, else-is_begun}

pub loop-one-preserved : goal.loop-one-preserved
loop-one-preserved c = record {
  begins =
      begins_on c.args.search.now c.loop-one.search c.begin_one.new.search c.args.refused.now c.one-item.result
      (one_at c.args.refused.now c.loop-one.one-index c.one-item.result c.loop-one-test.true c.one-item.is)
      c.loop-one.invariant.begins c.in_ok-is_new.ensures.begins;
  none =
      elim c.if-is_begun.branch [
        | then-is_begun w ↦ λ no. cc
        | else-is_begun w ↦ λ no. c.in_ok-is_new.ensures.none (sym w.is_begun-is ∙ no) ∙ c.loop-one.invariant.none w.if-is_begun.false
      ];
}
