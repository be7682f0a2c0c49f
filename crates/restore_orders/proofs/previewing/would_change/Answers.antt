use Rattle.std.proofs.Common.{◌∙◌, ℕ, List, ap, subst}
use Rattle.std.specs.Prelude.{nat_lt}
use Rattle.drive.specs.Fields.{DriveFields, state_in, store_of}
use Rattle.history_restore.specs.declared.planning.ObjectPlan.{ObjectPlan}
use Rattle.restore_orders.specs.Choosing.{AreChosen}
use Rattle.restore_orders.specs.Orders.{WouldChange}
use Rattle.restore_orders.specs.Reaching.{changes_ahead}
use Rattle.restore_orders.proofs.previewing.would_change.Goals as goal

pub returns : goal.returns
returns g c =
    let order = c.args.order.now in
    let begun = c.session.new.self in
    let chosen = c.in_ok-chosen.chosen.items in
    subst (λ (d : DriveFields). WouldChange d order (nat_lt 0 c.changes_ahead-count.result)) c.session.ensures.same (record {
      chosen = chosen;
      choice = subst (λ (t : ℕ). AreChosen (state_in begun) (store_of begun) order t chosen) c.in_ok-at.ensures.moment c.in_ok-chosen.ensures.chosen;
      some = ap (nat_lt 0) (c.changes_ahead-count.ensures ∙ ap (λ (plans : List ObjectPlan). changes_ahead plans order.full.now) c.as_slice.ensures.value);
    })
