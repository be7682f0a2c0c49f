use Rattle.std.proofs.Common.{◌≡◌, ◌∙◌, List, [], ap, arith, eq-eqb, eqb-true, length, refl, sym, subst, vec_len}
use Rattle.std.proofs.lemmas.Bool.{true≢false}
use Rattle.std.proofs.lemmas.List.{nil_from_length}
use Rattle.std.specs.List.{AllByRecursion}
use Rattle.drive.specs.Fields.{state_in}
use Rattle.restore_search.specs.declared.surveys.Lacking.{Lacking}
use Rattle.restore_orders.specs.Reaching.{changes_ahead}
use Rattle.restore_trials.specs.Surveys.{IsRefusedFrom}
use Rattle.restore_trials.specs.Trying.{Carries, RestoresAll}
use Rattle.restore_trials.proofs.Finding.{refused_from, widens_ahead}
use Rattle.restore_trials.proofs.surveys.survey_cleared.Goals as goal
use Rattle.restore_trials.proofs.surveys.survey_cleared.Goals.{then-is_empty+in_ok-try_all, else-is_empty}

pub returns-clause-refused : goal.returns-clause-refused
returns-clause-refused g c =
    elim c.if-is_empty.branch [
      | then-is_empty+in_ok-try_all w ↦
          let widens = widens_ahead (state_in c.args.drive.now) (state_in c.widen_window.new.drive) c.args.moments.now.asked c.args.moments.now.at c.in_ok-_widened._widened c.changes_ahead-changes.result (changes_ahead c.args.chosen.now c.args.order.now.full.now) c.changes_ahead-changes.ensures c.in_ok-_widened.ensures.widened in
          let unmade = c.in_ok-unmade.unmade in
          let none : unmade.items ≡ [] = nil_from_length unmade.items (omega (arith, unmade.ok.0, eqb-true (vec_len unmade) 0 (sym c.is_empty.ensures ∙ w.if-is_empty.true))) in
          let carries = subst (λ (old : List Lacking). Carries c.args.moments.now c.make_rooms.new.drive old w.try_all.new.drive w.try_all.new.lacking.items) c.new-refused.ensures.items w.in_ok-try_all.ensures.carries in
          subst (AllByRecursion (IsRefusedFrom c.args.drive.now c.args.order.now c.args.moments.now c.args.chosen.now)) (sym (ap (λ v. v.items) w.refused-is))
          (refused_from c.args.drive.now c.args.order.now c.args.moments.now c.args.chosen.now c.in_ok-_widened._widened c.widen_window.new.drive c.make_rooms.new.drive w.try_all.new.drive w.try_all.new.lacking.items
          widens c.widen_window.ensures.store (c.in_ok-unmade.ensures.made none) carries)
      | else-is_empty w ↦
          subst (AllByRecursion (IsRefusedFrom c.args.drive.now c.args.order.now c.args.moments.now c.args.chosen.now)) (sym (ap (λ v. v.items) w.refused-is ∙ c.new-refused.ensures.items)) tt
    ]

pub returns-clause-serves : goal.returns-clause-serves
returns-clause-serves g c =
    elim c.if-is_empty.branch [
      | then-is_empty+in_ok-try_all w ↦ λ none unmade. record {
        widened = c.in_ok-_widened._widened;
        wide = c.widen_window.new.drive;
        widens = widens_ahead (state_in c.args.drive.now) (state_in c.widen_window.new.drive) c.args.moments.now.asked c.args.moments.now.at c.in_ok-_widened._widened c.changes_ahead-changes.result (changes_ahead c.args.chosen.now c.args.order.now.full.now) c.changes_ahead-changes.ensures c.in_ok-_widened.ensures.widened;
        store_stays = c.widen_window.ensures.store;
        ready = c.make_rooms.new.drive;
        made = c.in_ok-unmade.ensures.made unmade;
        restored = subst (RestoresAll c.make_rooms.new.drive c.args.moments.now c.args.chosen.now) (sym w.drive-is) (w.in_ok-try_all.ensures.fine (sym (ap (λ v. v.items) w.refused-is) ∙ none));
      }
      | else-is_empty w ↦ λ none unmade.
          let len : vec_len c.in_ok-unmade.unmade ≡ 0 = omega (arith, c.in_ok-unmade.unmade.ok.0, ap (λ (l : List Lacking). length l) unmade) in
          absurd (true≢false (sym (eq-eqb (vec_len c.in_ok-unmade.unmade) 0 len) ∙ sym c.is_empty.ensures ∙ w.if-is_empty.false))
    ]
