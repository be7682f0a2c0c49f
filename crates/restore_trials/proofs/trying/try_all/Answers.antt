use Rattle.std.proofs.Common.{◌∙◌, ◌++◌, List, [], ◌∷◌, ap, sym, subst, take}
use Rattle.std.proofs.lemmas.List.{take_all, take_more}
use Rattle.std.proofs.lemmas.Result.{on_ok_weaker}
use Rattle.history_restore.specs.declared.planning.ObjectPlan.{ObjectPlan}
use Rattle.restore_trials.specs.Trying.{AreRestoredOver}
use Rattle.restore_trials.proofs.Carrying.{carries_none, carries_on}
use Rattle.restore_trials.proofs.Serving.{AreDone, all_restored, done_none, done_on}
use Rattle.restore_trials.proofs.trying.try_all.Goals as goal

pub loop-planned-init : goal.loop-planned-init
loop-planned-init g c =
    let d = c.args.drive.now in
    let old = c.args.lacking.now.items in
    record {
      carries = carries_none c.args.moments.now d old;
      fine = λ none. done_none d c.args.moments.now old c.new.result.items c.new.ensures.items none;
    }

pub loop-planned-preserved : goal.loop-planned-preserved
loop-planned-preserved g c =
    let d = c.args.drive.now in
    let old = c.args.lacking.now.items in
    let now = c.loop-planned in
    let plans = take now.planned-index c.args.chosen.now in
    let more = ap (λ (p : ObjectPlan). plans ++ p ∷ []) c.planned-item.is ∙ sym (take_more c.args.chosen.now now.planned-index c.planned-item.result c.loop-planned-test.true) in
    record {
      carries = carries_on c.args.moments.now d now.drive c.try_planned.new.drive old now.lacking.items c.try_planned.new.lacking.items now.invariant.carries c.in_ok-try_planned.ensures.carries;
      fine = λ none.
          subst (λ (so_far : List ObjectPlan). AreDone d c.args.moments.now old c.try_planned.new.progress.wasted c.try_planned.new.progress.deferred.items so_far c.try_planned.new.drive) more
          (done_on d now.drive c.try_planned.new.drive c.args.moments.now old now.lacking.items c.try_planned.new.lacking.items now.progress.deferred.items c.try_planned.new.progress.deferred.items now.progress.wasted c.try_planned.new.progress.wasted plans c.planned-item.result
          now.invariant.fine c.in_ok-try_planned.ensures.fine none);
    }

pub returns : goal.returns
returns g c =
    let d = c.args.drive.now in
    let old = c.args.lacking.now.items in
    let now = c.loop-planned in
    let all = take_all now.planned-index c.args.chosen.now c.loop-planned-test.false in
    record {
      carries = on_ok_weaker c.try_deferred.result (carries_on c.args.moments.now d now.drive c.try_deferred.new.drive old now.lacking.items c.try_deferred.new.lacking.items now.invariant.carries) c.try_deferred.ensures.carries;
      fine = on_ok_weaker c.try_deferred.result
          (λ fine none.
          let rest = fine none in
          all_restored d now.drive c.try_deferred.new.drive c.args.moments.now old now.progress.wasted now.progress.deferred.items c.args.chosen.now
          (subst (λ (plans : List ObjectPlan). AreDone d c.args.moments.now old now.progress.wasted now.progress.deferred.items plans now.drive) all (now.invariant.fine rest.0))
          (subst (λ (off : List ObjectPlan). AreRestoredOver now.drive c.args.moments.now off c.try_deferred.new.drive) c.as_slice-deferred.ensures.value rest.1))
          c.try_deferred.ensures.fine;
    }
