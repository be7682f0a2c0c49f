use Rattle.std.proofs.Common.{◌∙◌, List, ap, filter, sym, subst}
use Rattle.std.specs.List.{AllByRecursion}
use Rattle.s4_model.specs.State.{State}
use Rattle.drive.specs.Fields.{state_in}
use Rattle.history_restore.specs.Planning.{IsPlanned}
use Rattle.history_restore.specs.Whole.{is_chosen}
use Rattle.history_restore.specs.declared.planning.ObjectPlan.{ObjectPlan}
use Rattle.restore_search.proofs.Each.{all_passing}
use Rattle.restore_trials.specs.Surveys.{IsHiddenAlone}
use Rattle.restore_trials.proofs.surveys.plans_found.Goals as goal

pub returns-in-Ok : goal.returns-in-Ok
returns-in-Ok g c =
    let s = state_in c.args.drive.now in
    let plans = c.in_ok-plans.plans.items in
    let keep = is_chosen c.args.order.now.keep_newer in
    let chosen = c.in-Ok.ensures ∙ ap (λ (all : List ObjectPlan). filter keep all) c.as_slice-2.ensures.value in
    let planned = subst (λ (t : State). AllByRecursion (IsPlanned t c.args.at) plans) c.aims_by.ensures.state c.in_ok-plans.ensures.planned in
    record {
      planned = subst (AllByRecursion (IsPlanned s c.args.at)) (sym chosen) (all_passing (IsPlanned s c.args.at) keep plans planned);
      hidden = subst (λ (t : State). AllByRecursion (IsHiddenAlone t c.args.at) c.args.hidden.now.items → AllByRecursion (IsHiddenAlone t c.args.at) c.plan_aims.new.hidden.items) c.aims_by.ensures.state c.in_ok-plans.ensures.hidden;
      chosen = λ none. record {
        aims = c.in_ok-aims.aims.items;
        aimed = c.in_ok-aims.ensures.aims;
        plans = plans;
        planned = record { aims_are = c.in_ok-plans.ensures.all none ∙ c.as_slice.ensures.value; each = planned };
        chosen_are = chosen;
      };
      state = c.plan_aims.ensures.state ∙ c.aims_by.ensures.state;
      store = c.plan_aims.ensures.store ∙ c.aims_by.ensures.store;
    }
