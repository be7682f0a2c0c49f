use Rattle.server.proofs.Stepping.{moved_ends}
use Rattle.server.proofs.moving.take_steps.Goals as goal

-- the step that was taken last is counted too
pub returns-then-await_step : goal.returns-then-await_step
returns-then-await_step g c = moved_ends _ _ _ _ _ _ _ c.loop-turn.invariant.taken c.move_next-step.ensures c.count.ensures.planned c.count.ensures.moved
