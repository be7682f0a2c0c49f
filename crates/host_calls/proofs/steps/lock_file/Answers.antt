use Rattle.host_calls.proofs.Effects.{locked_if}
use Rattle.host_calls.proofs.steps.lock_file.Goals as goal

pub returns-clause-locked : goal.returns-clause-locked
returns-clause-locked g c = locked_if _ _ _ c.try_lock.result c.try_lock.ensures
