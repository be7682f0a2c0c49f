-- Plans that are made, and plans that were done.
use Rattle.std.proofs.Common.{◌≡◌, ◌∙◌, ◌+◌, ◌++◌, ℕ, List, [], ◌∷◌, refl, ap, arith}
use Rattle.std.proofs.lemmas.List.{map_push}
use Rattle.std.proofs.SliceLists.{all_by_recursion_push}
use Rattle.s4_model.specs.State.{State}
use Rattle.history_restore.specs.declared.aims.Aim.{Aim}
use Rattle.history_restore.specs.declared.planning.ObjectPlan.{ObjectPlan}
use Rattle.history_restore.specs.Plans.{change_count}
use Rattle.history_restore.specs.Planning.{IsPlanned, PlansEach, changes_planned}

pub plans_none : (s : State) (at : ℕ) → PlansEach s at [] []
plans_none s at = record { aims_are = refl; each = tt }

-- one more
pub plans_more : (s : State) (at : ℕ) (a : Aim) (aims : List Aim) (plans : List ObjectPlan) (p : ObjectPlan) → PlansEach s at aims plans → p.aim ≡ a → IsPlanned s at p → PlansEach s at (aims ++ a ∷ []) (plans ++ p ∷ [])
plans_more s at a aims plans p before is planned = record {
  aims_are = map_push (λ (q : ObjectPlan). q.aim) plans p ∙ ap (λ l. l ++ p.aim ∷ []) before.aims_are ∙ ap (λ (x : Aim). aims ++ x ∷ []) is;
  each = all_by_recursion_push (IsPlanned s at) plans p before.each planned;
}

-- ---- how many changes

pub changes_more : (plans : List ObjectPlan) (p : ObjectPlan) → changes_planned (plans ++ p ∷ []) ≡ changes_planned plans + change_count p.plan
changes_more [] p = omega arith
changes_more (q ∷ plans) p = omega (arith, changes_more plans p)
