use Rattle.std.proofs.Common.{◌∙◌, ◌<◌, length, arith}
use Rattle.history_aging.proofs.Sees.{ends_on}
use Rattle.history_aging.proofs.ends.ends_in.Goals as goal

pub loop-object-preserved : goal.loop-object-preserved
loop-object-preserved g c =
    let before = c.loop-object.invariant in
    let lt : c.loop-object.object-index < length c.args.objects.now = omega arith in
    record {
      ledger = c.ends_of.ensures.ledger ∙ before.ledger;
      store = c.ends_of.ensures.store ∙ before.store;
      ends = ends_on c.loop-object.drive c.args.drive.now c.args.objects.now c.loop-object.object-index c.object-item.result c.loop-object.ends.items c.as_slice.result.now c.extend_from_slice.new.self.items before.ledger before.store
          lt c.object-item.is (c.as_slice.ensures.value ∙ c.in_ok-more.ensures.ends) before.ends c.in_ok-extend_from_slice.ensures.items;
    }
