-- What is refused of a version that can be read.
use Rattle.std.proofs.Common.{◌≡◌, ◌⊎◌, ℕ, Some, inl, inr, ap}
use Rattle.s4_types.specs.declared.refusals.Refusal.{Refusal}
use Rattle.s4_types.specs.declared.refusals.Refusal.TheVariants.{NoMemory, Busy}
use Rattle.s4_model.specs.Refusals.{moment_refusal}
use Rattle.s4_model.specs.State.{State}
use Rattle.s4_model.specs.Visible.{IsVisible}
use Rattle.history_diff.specs.declared.faults.Stop.TheVariants.{Refused}
use Rattle.history_export.proofs.Seen.{only_want}
use Rattle.history_versions.specs.Stops.{IsShort}

want : (e : Refusal) → (e ≡ NoMemory) ⊎ (e ≡ Busy) → IsShort (Refused e)
want e (inl is) = inr (inl (ap Refused is))
want e (inr is) = inr (inr (ap Refused is))

-- where a version that can be read is refused, that is for want
pub short_refusal : (s : State) (o t : ℕ) (e : Refusal) → IsVisible s o t → (moment_refusal s o t ≡ Some e) ⊎ (e ≡ NoMemory) ⊎ (e ≡ Busy) → IsShort (Refused e)
short_refusal s o t e v refused = want e (only_want s o t e v refused)
