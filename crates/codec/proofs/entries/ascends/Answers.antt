use Rattle.std.proofs.Common.{sym, ◌∙◌}
use Rattle.codec.proofs.Ascending.{ascend_on, ascend_bad, ascend_end}
use Rattle.codec.proofs.entries.ascends.Goals as goal

pub returns-then-not-may_stand : goal.returns-then-not-may_stand
returns-then-not-may_stand c = sym (ascend_bad c.loop-triple.low c.loop-triple.triple-index c.args.triples.now c.triple-item.result c.loop-triple-test.true c.triple-item.is (sym c.if-not-may_stand.ensures.exact)) ∙ c.loop-triple.invariant

pub returns : goal.returns
returns c = sym (ascend_end c.loop-triple.low c.loop-triple.triple-index c.args.triples.now c.loop-triple-test.false) ∙ c.loop-triple.invariant

pub loop-triple-preserved : goal.loop-triple-preserved
loop-triple-preserved c = sym (ascend_on c.loop-triple.low c.loop-triple.triple-index c.args.triples.now c.triple-item.result c.loop-triple-test.true c.triple-item.is (sym c.if-not-may_stand.ensures.exact)) ∙ c.loop-triple.invariant
