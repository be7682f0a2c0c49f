use Rattle.std.proofs.Common.{arith, ◌∙◌, refl}
use Rattle.serving.proofs.AnsweringLemmas.{passed_items}
use Rattle.batch_serving.proofs.BatchLemmas.{holds_breaks, holds_more, holds_none}
use Rattle.batch_serving.proofs.SayingLemmas.{said_none}
use Rattle.batch_serving.proofs.batches.answer_items.Goals as goal

pub loop-item-init : goal.loop-item-init
loop-item-init g c = record {
  held = holds_none g.B.Backend.steps g.C.Clock.draws g.K.Keeping.waits c.args.out.now.items _ _ _ _ c.requires.empty;
  said = said_none g.B.Backend.steps g.C.Clock.draws _ _ _ _ _ _ c.requires.empty c.requires.said;
  failures = refl;
}

pub loop-item-preserved : goal.loop-item-preserved
loop-item-preserved g c = record {
  held = holds_more g.B.Backend.steps g.C.Clock.draws g.K.Keeping.waits _ _ _ _ _ _ _ _ _ _ _ _ _ _ _ _ c.loop-item.invariant.held c.in-Ok.ensures.answers;
  said = c.in-Ok.ensures.said;
  failures = grind arith;
}

pub returns-in-Err-clause-answers : goal.returns-in-Err-clause-answers
returns-in-Err-clause-answers g c =
    let is = passed_items c.into_iter-item-iterator.result c.args.items.items c.into_iter-item-iterator.ensures.into_iter_gives.0 (c.into_iter-item-iterator.ensures.into_iter_gives.1 ∙ c.args.items.ok.0)
    c.loop-item.yielded c.loop-item.item-iterator c.loop-item.yielded_by c.next.result c.next.new.self c.in-Some.item c.in-Some.is c.next.ensures.steps in
    holds_breaks g.B.Backend.steps g.C.Clock.draws g.K.Keeping.waits c.in-Err.end c.args.items.items c.loop-item.yielded _ c.in-Some.item _ _ _ _ _ _ _ _ _ _ _ _ _
    is c.loop-item.invariant.held c.in-Err.ensures.answers
