use Rattle.s4_model.proofs.OutcomeLemmas.{told_is_taken}
use Rattle.s4_model.proofs.ClockLaws.{change_acts, accepted_keeps_limits}
use Rattle.s4_model.proofs.laws.a_change_acts_at_its_moment.Goals as goal

pub returns : goal.returns
returns c = record { told = told_is_taken; acts = change_acts; limits = accepted_keeps_limits }
