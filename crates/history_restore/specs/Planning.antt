-- What restoring objects to a moment asks for, before anything is changed.
use Rattle.std.specs.Prelude.{◌≡◌, ℕ, ◌+◌, Bool, true, false, None, List, [], ◌∷◌, map}
use Rattle.std.specs.List.{AllByRecursion}
use Rattle.s4_model.specs.State.{State}
use Rattle.s4_model.specs.VersionAt.{version_of}
use Rattle.s4_model.specs.Visible.{IsVisible}
use Rattle.s4_model.specs.Refusals.{present}
use Rattle.history_restore.specs.declared.aims.Aim.{Aim}
use Rattle.history_restore.specs.declared.failures.Failure.{Failure}
use Rattle.history_restore.specs.declared.planning.ObjectPlan.{ObjectPlan}
use Rattle.history_restore.specs.declared.plans.Plan.{Plan}
use Rattle.history_restore.specs.declared.plans.Plan.TheVariants.{Keep, Delete, Remake, Change}
use Rattle.history_restore.specs.Plans.{IsPlan, change_count, is_joined}
use Rattle.history_restore.specs.Restoring.{IsUnread}

-- An object has this plan, by what it was at a moment that can be read and what it is; its runs are single.
pub record IsPlanned (s : State) (at : ℕ) (p : ObjectPlan) : Type 0 where
  pub visible : IsVisible s p.aim.object at
  pub planned : IsPlan (version_of s p.aim.object at) (present s p.aim.target) p.plan
  pub apart : is_joined p.plan ≡ false

-- what plans are of
abbrev pub aims_planned : List ObjectPlan → List Aim
aims_planned plans = map (λ (p : ObjectPlan). p.aim) plans

-- These are the plans of these aims, in their order.
pub record PlansEach (s : State) (at : ℕ) (aims : List Aim) (plans : List ObjectPlan) : Type 0 where
  pub aims_are : aims_planned plans ≡ aims
  pub each : AllByRecursion (IsPlanned s at) plans

-- Why plans weren't made: an object's versions weren't read.
pub record IsUnplanned (s : State) (at : ℕ) (failure : Failure) : Type 0 where
  pub why : IsUnread s failure.aim.object at failure.refusal
  pub flush : failure.flush ≡ None

-- how many changes plans have together
abbrev pub changes_planned : List ObjectPlan → ℕ
changes_planned [] = 0
changes_planned (p ∷ plans) = change_count p.plan + changes_planned plans

-- whether a plan is of an object that was there at the moment, or is no more: of one that was made since it is to delete it
abbrev pub is_older : Plan → Bool
is_older Delete = false
is_older Keep = true
is_older (Remake changes) = true
is_older (Change changes) = true
