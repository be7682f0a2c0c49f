use Rattle.std.proofs.Common.{◌∙◌}
use Rattle.host_calls.proofs.steps.write_front.Goals.{in-Ok, in-Err}
use Rattle.host_calls.proofs.steps.write_front.Goals as goal

pub returns-in-Ok-eq0-clause-at : goal.returns-in-Ok-eq0-clause-at
returns-in-Ok-eq0-clause-at g c = λ path at.
    let goes = rw c.in-Ok-eq0.is at c.write_more.ensures.written in
    (goes.on path _ (c.loop.invariant.writing path at)).at

pub returns-in-Ok-eq0-clause-others : goal.returns-in-Ok-eq0-clause-others
returns-in-Ok-eq0-clause-others g c = λ path other at.
    let goes = rw c.in-Ok-eq0.is at c.write_more.ensures.written in
    (goes.on path _ (c.loop.invariant.writing path at)).others other

pub returns-in-Err-2-clause-at : goal.returns-in-Err-2-clause-at
returns-in-Err-2-clause-at g c = λ path at. (c.in-Err.ensures.unwritten.on path _ (c.loop.invariant.writing path at)).at

pub returns-in-Err-2-clause-others : goal.returns-in-Err-2-clause-others
returns-in-Err-2-clause-others g c = λ path other at. (c.in-Err.ensures.unwritten.on path _ (c.loop.invariant.writing path at)).others other

pub loop-preserved : goal.loop-preserved
loop-preserved g c = elim c.match-write_more.branch [
  | in-Ok w ↦ record {
    within = rw w.done-is w.in-Ok.ensures.count;
    writing = λ path at. rw w.done-is (w.in-Ok.ensures.written.on path _ (c.loop.invariant.writing path at));
    failed = c.write_more.ensures.failed ∙ c.loop.invariant.failed;
  }
  | in-Err w ↦ record {
    within = rw w.done-is c.loop.invariant.within;
    writing = λ path at. rw w.done-is (w.in-Err.ensures.unwritten.on path _ (c.loop.invariant.writing path at));
    failed = c.write_more.ensures.failed ∙ c.loop.invariant.failed;
  }
]
