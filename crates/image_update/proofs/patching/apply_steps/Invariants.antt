use Rattle.std.proofs.Common.{◌≡◌, drop}
use Rattle.image_update.specs.Changes.{applied}
use Rattle.image_update.proofs.Loops.{with_front}
use Rattle.image_update.proofs.patching.apply_steps.Given as goal

-- what the other steps give, after what was made so far
abbrev pub invariant-loop-step : goal.invariant-loop-step
invariant-loop-step l = with_front l.new.items (applied (drop l.step-index l.steps) l.old l.put) ≡ applied l.steps l.fn.old l.fn.put
