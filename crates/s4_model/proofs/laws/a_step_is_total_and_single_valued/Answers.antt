use Rattle.s4_model.proofs.TotalLaws.{each_has_step, steps_agree}
use Rattle.s4_model.proofs.laws.a_step_is_total_and_single_valued.Goals as goal

pub returns : goal.returns
returns c = record { total = each_has_step; single = steps_agree }
