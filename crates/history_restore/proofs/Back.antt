-- An object that was restored, or wasn't.
use Rattle.std.proofs.Common.{◌≡◌, ℕ}
use Rattle.s4_model.specs.State.{State}
use Rattle.s4_model.specs.VersionAt.{version_of}
use Rattle.s4_model.specs.Refusals.{present}
use Rattle.history_restore.specs.declared.aims.Aim.{Aim}
use Rattle.history_restore.specs.declared.plans.Plan.{Plan}
use Rattle.history_restore.specs.Plans.{IsPlan, number_by}
use Rattle.history_restore.specs.Restoring.{number_after}
use Rattle.history_restore.proofs.Turning.{number_by_plan}

-- the number that a plan gives an object is the one that it has afterwards
pub number_planned : (s : State) (a : Aim) (at : ℕ) (plan : Plan) → IsPlan (version_of s a.object at) (present s a.target) plan → number_by plan s.next a.target ≡ number_after s a at
number_planned s a at plan is = number_by_plan (version_of s a.object at) (present s a.target) plan s.next a.target is
