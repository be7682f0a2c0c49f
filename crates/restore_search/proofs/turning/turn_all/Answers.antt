use Rattle.std.proofs.Common.{◌∙◌, sym}
use Rattle.std.proofs.lemmas.Bool.{true≢false}
use Rattle.restore_search.proofs.Knowing.{one_at, settled_on, turns_on}
use Rattle.restore_search.proofs.turning.turn_all.Goals as goal
use Rattle.restore_search.proofs.turning.turn_all.Goals.{then-is_other, else-is_other}

pub loop-hiding-preserved : goal.loop-hiding-preserved
loop-hiding-preserved c = record {
  turns =
      turns_on c.args.flush c.args.hidings.now c.args.survey.now c.args.lacking.now.items c.hiding-item.result c.turn_of-turn.result _ _ _ _
      (one_at c.args.hidings.now c.loop-hiding.hiding-index c.hiding-item.result c.loop-hiding-test.true c.hiding-item.is)
      c.turn_of-turn.ensures.turns c.in_ok-is_turned.ensures.takes c.loop-hiding.invariant.turns;
  settled =
      elim c.if-is_other.branch [
        | then-is_other w ↦ λ no none. absurd (true≢false (sym w.if-is_other.true ∙ sym w.is_other-is ∙ no))
        | else-is_other w ↦ λ no none.
            settled_on c.args.flush c.args.hidings.now c.args.survey.now.refused.items c.args.lacking.now.items c.loop-hiding.hiding-index c.hiding-item.result c.turn_of-turn.result _ _ _ _
            c.loop-hiding-test.true c.hiding-item.is c.turn_of-turn.ensures.turns (c.turn_of-turn.ensures.settled none)
            (c.in_ok-is_turned.ensures.same (sym w.is_other-is ∙ no)) c.in_ok-is_turned.ensures.takes (c.loop-hiding.invariant.settled w.if-is_other.false none)
      ];
}
