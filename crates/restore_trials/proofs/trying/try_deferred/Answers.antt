use Rattle.std.proofs.Common.{◌≡◌, ◌∙◌, ◌++◌, List, [], ◌∷◌, ap, sym, subst, take}
use Rattle.std.proofs.lemmas.List.{take_more}
use Rattle.history_restore.specs.declared.planning.ObjectPlan.{ObjectPlan}
use Rattle.restore_trials.specs.Trying.{AreRestoredOver}
use Rattle.restore_trials.proofs.Carrying.{carries_on}
use Rattle.restore_trials.proofs.Serving.{deferred_on}
use Rattle.restore_trials.proofs.trying.try_deferred.Goals as goal

pub loop-planned-preserved : goal.loop-planned-preserved
loop-planned-preserved g c =
    let d = c.args.drive.now in
    let old = c.args.lacking.now.items in
    let now = c.loop-planned in
    let plans = take now.planned-index c.args.deferred.now in
    let more = ap (λ (p : ObjectPlan). plans ++ p ∷ []) c.planned-item.is ∙ sym (take_more c.args.deferred.now now.planned-index c.planned-item.result c.loop-planned-test.true) in
    record {
      carries = carries_on c.args.moments.now d now.drive c.try_aim.new.drive old now.lacking.items c.try_aim.new.lacking.items now.invariant.carries c.in_ok-_is_restored.ensures.carries;
      fine = λ none.
          subst (λ (so_far : List ObjectPlan). (old ≡ []) × AreRestoredOver d c.args.moments.now so_far c.try_aim.new.drive) more
          (deferred_on d now.drive c.try_aim.new.drive c.args.moments.now old now.lacking.items c.try_aim.new.lacking.items plans c.planned-item.result c.in_ok-_is_restored._is_restored
          now.invariant.fine c.in_ok-_is_restored.ensures.fine none);
    }
