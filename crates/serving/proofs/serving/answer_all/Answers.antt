use Rattle.std.proofs.Common.{◌∷◌, [], List, drop, length, suc, arith, sym, ◌∙◌, subst}
use Rattle.s4_types.specs.declared.requests.Request.{Request}
use Rattle.rpc.specs.declared.items.Item.{Item}
use Rattle.serving.specs.Answering.{StopsAmong}
use Rattle.serving.proofs.AnsweringLemmas.{AnswersAll-append, StopsAmong-before, StopsAmong-behind, passed_items}
use Rattle.serving.proofs.serving.answer_all.Goals as goal

pub loop-item-preserved : goal.loop-item-preserved
loop-item-preserved g c = record {
  answered = AnswersAll-append g.B.Backend.steps g.C.Clock.draws _ _ _ _ _ _ _ _ _ _ _ c.loop-item.invariant.answered c.in-Ok.ensures.answers;
  failures = grind arith;
}

pub returns-in-Err-clause-answers : goal.returns-in-Err-clause-answers
returns-in-Err-clause-answers g c =
    let is = passed_items c.into_iter-item-iterator.result c.args.items.items c.into_iter-item-iterator.ensures.into_iter_gives.0 (c.into_iter-item-iterator.ensures.into_iter_gives.1 ∙ c.args.items.ok.0)
    c.loop-item.yielded c.loop-item.item-iterator c.loop-item.yielded_by c.next.result c.next.new.self c.in-Some.item c.in-Some.is c.next.ensures.steps in
    let later = drop (suc (length c.loop-item.yielded)) c.args.items.items in
    let stop = StopsAmong-behind g.B.Backend.steps g.C.Clock.draws c.loop-item.yielded (c.in-Some.item ∷ later) _ _ _ _ _ _ _ _ _ _
    c.loop-item.invariant.answered (StopsAmong-before g.B.Backend.steps g.C.Clock.draws (c.in-Some.item ∷ []) later _ _ _ _ _ _ _ c.in-Err.ensures.answers) in
    subst (λ (items : List (Item Request)). StopsAmong g.B.Backend.steps g.C.Clock.draws items c.in-Err.end c.args.backend.now c.args.clock.now (g.W.Sink.passed c.args.writer.now)
    c.answer.new.backend c.answer.new.clock (g.W.Sink.passed c.answer.new.writer)) (sym is) stop
