use Rattle.std.proofs.Common.{◌≡◌, ◌∙◌, ◌+◌, ◌++◌, ◌<◌, [], ◌∷◌, length, take, ap, sym, arith}
use Rattle.std.proofs.lemmas.List.{take_more}
use Rattle.history_restore.specs.declared.planning.ObjectPlan.{ObjectPlan}
use Rattle.history_restore.specs.Plans.{change_count}
use Rattle.history_restore.specs.Planning.{changes_planned}
use Rattle.history_restore.proofs.AllPlanned.{changes_more}
use Rattle.history_restore.proofs.planning.count_changes.Goals as goal

pub loop-planned-preserved : goal.loop-planned-preserved
loop-planned-preserved c =
    let plans = c.args.plans.now in
    let i = c.loop-planned.planned-index in
    let p : ObjectPlan = c.planned-item.result in
    let lt : i < length plans = omega arith in
    let more : changes_planned (take (i + 1) plans) ≡ changes_planned (take i plans) + change_count p.plan =
    ap changes_planned (take_more plans i p lt ∙ ap (λ (x : ObjectPlan). take i plans ++ x ∷ []) (sym c.planned-item.is)) ∙ changes_more (take i plans) p in
    omega (arith, more, c.loop-planned.invariant, c.change_count.ensures, c.saturating_add-count.ensures)
