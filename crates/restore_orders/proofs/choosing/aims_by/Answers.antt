use Rattle.std.proofs.Common.{◌∙◌, List, ℕ, filter, ap, subst}
use Rattle.s4_model.specs.State.{State}
use Rattle.version_store.specs.Store.{StoreFields}
use Rattle.drive.specs.Fields.{state_in, store_of}
use Rattle.history_restore.specs.Aims.{is_not_skipped}
use Rattle.restore_orders.specs.Choosing.{AreAimsOf, HaveRows}
use Rattle.restore_orders.proofs.choosing.aims_by.Goals as goal

pub returns-clause-aims : goal.returns-clause-aims
returns-clause-aims g c =
    let order = c.args.order.now in
    let since = c.objects_by.new.drive in
    let objects = c.in_ok-objects.objects.items in
    let whole = c.in-Ok.whole.items in
    let rows : HaveRows (store_of since) objects = subst (HaveRows (store_of since)) c.as_slice.ensures.value c.in_ok-check_objects.ensures.rows in
    let all : AreAimsOf (state_in since) (store_of since) c.args.at order.stand_ins.now objects whole =
    subst (λ (asked : List ℕ). AreAimsOf (state_in since) (store_of since) c.args.at order.stand_ins.now asked whole) c.as_slice-2.ensures.value c.in-Ok.ensures.aims in
    record {
      given = c.in_ok-check_given.ensures.given;
      asked = objects;
      objects = c.in_ok-objects.ensures.objects;
      rows = subst (λ (store : StoreFields). HaveRows store objects) c.in_ok-objects.ensures.store rows;
      whole = whole;
      all = subst (λ (s : State). AreAimsOf s (store_of c.args.drive.now) c.args.at order.stand_ins.now objects whole) c.in_ok-objects.ensures.state
          (subst (λ (store : StoreFields). AreAimsOf (state_in since) store c.args.at order.stand_ins.now objects whole) c.in_ok-objects.ensures.store all);
      aims_are = c.in_ok-aims.ensures ∙ ap (filter (is_not_skipped order.skipped.now)) c.as_slice-3.ensures.value;
    }
