use Rattle.std.proofs.Common.{sym, ◌∙◌}
use Rattle.codec.proofs.Holes.{holes_on, holes_bad, holes_end}
use Rattle.codec.proofs.checkpoints.has_holes_past.Goals as goal

pub returns-then-not-may_stand : goal.returns-then-not-may_stand
returns-then-not-may_stand c = sym (holes_bad c.loop-pointer.left c.loop-pointer.pointer-index c.args.pointers.now c.pointer-item.result c.loop-pointer-test.true c.pointer-item.is (sym c.if-not-may_stand.ensures)) ∙ c.loop-pointer.invariant

pub loop-pointer-preserved : goal.loop-pointer-preserved
loop-pointer-preserved c = rw c.saturating_sub-left.ensures (sym (holes_on c.loop-pointer.left c.loop-pointer.pointer-index c.args.pointers.now c.pointer-item.result c.loop-pointer-test.true c.pointer-item.is (sym c.if-not-may_stand.ensures)) ∙ c.loop-pointer.invariant)

pub returns : goal.returns
returns c = sym (holes_end c.loop-pointer.left c.loop-pointer.pointer-index c.args.pointers.now c.loop-pointer-test.false) ∙ c.loop-pointer.invariant
