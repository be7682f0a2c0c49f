use Rattle.std.proofs.Common.{◌≡◌, ◌∙◌, List, ap, refl, sym, subst}
use Rattle.std.specs.List.{AllByRecursion}
use Rattle.drive.specs.Fields.{DriveFields, state_in, store_of}
use Rattle.history_restore.specs.Planning.{IsPlanned}
use Rattle.history_restore.specs.declared.planning.ObjectPlan.{ObjectPlan}
use Rattle.restore_orders.specs.Choosing.{AreChosen}
use Rattle.restore_orders.specs.Means.{IsSameDrive}
use Rattle.restore_orders.specs.declared.dating.Moments.{Moments}
use Rattle.restore_trials.specs.Surveys.{IsHiddenAlone, IsRefusedFrom, IsServedAt, IsServedFrom, moments_of}
use Rattle.restore_trials.proofs.Finding.{finds_lacking, leaves_one, same_moments}
use Rattle.restore_trials.proofs.surveys.survey_drive.Goals as goal

pub returns : goal.returns
returns g c =
    let d = c.args.drive.now in
    let order = c.args.order.now in
    let at = c.in_ok-at.at in
    let chosen = c.in_ok-chosen.chosen.items in
    let found = c.in_ok-found.found in
    let seen = c.has_object-had.new.drive in
    let state : state_in c.plans_found.new.drive ≡ state_in d = c.plans_found.ensures.state ∙ ap state_in c.session.ensures.same in
    let store : store_of c.plans_found.new.drive ≡ store_of d = c.plans_found.ensures.store ∙ ap store_of c.session.ensures.same in
    let same : IsSameDrive d seen = record { state = c.has_object-had.ensures.state ∙ state; store = c.has_object-had.ensures.store ∙ store } in
    let moments : Moments = record { at = at; asked = c.in_ok-now.now } in
    let said = subst (λ (e : DriveFields). moments ≡ moments_of (state_in e) order) c.session.ensures.same (same_moments (state_in c.session.new.self) order at c.in_ok-now.now moments refl c.in_ok-at.ensures.moment c.in_ok-now.ensures.at) in
    let planned = subst (λ (e : DriveFields). AllByRecursion (IsPlanned (state_in e) at) chosen) c.session.ensures.same c.in_ok-chosen.ensures.planned in
    let none = subst (AllByRecursion (IsHiddenAlone (state_in c.session.new.self) at)) (sym c.new-hidden.ensures.items) tt in
    let hides = subst (λ (e : DriveFields). AllByRecursion (IsHiddenAlone (state_in e) at) c.plans_found.new.hidden.items) c.session.ensures.same (c.in_ok-chosen.ensures.hidden none) in
    let hidden = subst (AllByRecursion (IsHiddenAlone (state_in d) at)) (sym (ap (λ v. v.items) c.in_ok-found.ensures.hidden)) hides in
    let refused = subst (λ (plans : List ObjectPlan). AllByRecursion (IsRefusedFrom c.compact_for.new.drive order moments plans) found.refused.items) c.as_slice-chosen.ensures.value c.in_ok-found.ensures.refused in
    record {
      finds = finds_lacking d seen c.compact_for.new.drive order moments chosen found said same planned c.in-Ok.ensures.compacted hidden refused;
      serves = λ fine.
          let none = sym (ap (λ v. v.items) c.in_ok-found.ensures.hidden) ∙ fine.hidden in
          subst (λ (m : Moments). IsServedAt d order m) said (record {
            seen = seen;
            same = same;
            cleared = c.compact_for.new.drive;
            compacted = c.in-Ok.ensures.compacted;
            chosen = chosen;
            choice = subst (λ (e : DriveFields). AreChosen (state_in e) (store_of e) order at chosen) c.session.ensures.same (c.in_ok-chosen.ensures.chosen none);
            later = c.survey_cleared.new.drive;
            serves = subst (λ (plans : List ObjectPlan). IsServedFrom c.compact_for.new.drive order moments plans c.survey_cleared.new.drive) c.as_slice-chosen.ensures.value (c.in_ok-found.ensures.serves fine.refused fine.unmade);
            left = leaves_one (state_in d) (state_in c.plans_found.new.drive) (state_in c.survey_cleared.new.drive) c.has_object-had.result order.to_nothing state c.has_object-had.ensures.there (c.in_ok-check_found.ensures.left fine);
          });
    }
