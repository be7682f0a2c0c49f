use Rattle.s4_model.proofs.StateLemmas.{state_of-seen, state_of-took}
use Rattle.s4_model.proofs.SoundLemmas.{IsSound-new, IsSound-step, IsSound-leads}
use Rattle.s4_model.proofs.laws.histories_go_on_record_by_record.Goals as goal

pub returns : goal.returns
returns c = record {
  by_moments = state_of-seen;
  by_changes = state_of-took;
  new = IsSound-new;
  steps = λ h after role request now reply. IsSound-step h role request now reply after;
  exchanges = λ h after exchanges. IsSound-leads h exchanges after;
  audit = c.the_audit_goes_on_row_by_row.ensures.kept;
}
