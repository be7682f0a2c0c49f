use Rattle.history_restore.proofs.Turning.{turns_back}
use Rattle.history_restore.proofs.laws.a_plan_turns_back.Goals as goal

pub returns : goal.returns
returns c = turns_back
