use Rattle.s4_model.proofs.RunLimitLaws.{limits-new, limits-step, limits-leads}
use Rattle.s4_model.proofs.laws.runs_keep_their_limits.Goals as goal

pub returns : goal.returns
returns c = record {
  new = limits-new;
  steps = λ h after role request now reply. limits-step h role request now reply after;
  exchanges = λ h after exchanges. limits-leads h exchanges after;
}
