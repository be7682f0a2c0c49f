use Rattle.std.proofs.Common.{get_or, refl}
use Rattle.image_update.specs.declared.steps.Step.{Step}
use Rattle.image_update.specs.Changes.{applied}
use Rattle.image_update.proofs.Loops.{applied_on}
use Rattle.image_update.proofs.patching.apply_steps.Goals as goal

pub loop-step-preserved : goal.loop-step-preserved
loop-step-preserved c =
    let steps = c.args.steps.now in
    let i = c.loop-step.step-index in
    let none : Step = record { keep = 0; skip = 0; put = 0 } in
    applied_on steps i (get_or steps i none) none c.loop-step.old.now c.loop-step.put.now c.loop-step.new.items
    c.split_at.result.0.now c.split_at.result.1.now c.split_at-in-loop-step.result.1.now c.split_at-in-loop-step-2.result.0.now c.split_at-in-loop-step-2.result.1.now
    c.extend_from_slice.new.self.items c.extend_from_slice-in-loop-step.new.self.items (applied steps c.args.old.now c.args.put.now)
    c.loop-step-test.true refl c.if-step-old.false c.if-step-rest.false c.if-step-put.false
    c.split_at.ensures.front c.split_at.ensures.back c.split_at-in-loop-step.ensures.back c.split_at-in-loop-step-2.ensures.front c.split_at-in-loop-step-2.ensures.back
    c.in_ok-extend_from_slice.ensures.items c.in_ok-extend_from_slice-2.ensures.items c.loop-step.invariant
