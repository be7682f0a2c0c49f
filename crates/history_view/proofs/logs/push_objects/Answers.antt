use Rattle.std.proofs.Common.{◌∙◌, ◌<◌, length, arith}
use Rattle.history_view.proofs.Logged.{rows_on}
use Rattle.history_view.proofs.logs.push_objects.Goals as goal

pub loop-object-preserved : goal.loop-object-preserved
loop-object-preserved g c =
    let before = c.loop-object.invariant in
    let query = c.args.query.now in
    let lt : c.loop-object.object-index < length c.args.objects.now = omega arith in
    record {
      ledger = c.changes_between.ensures.ledger ∙ before.ledger;
      store = c.changes_between.ensures.store ∙ before.store;
      rows = rows_on c.loop-object.drive c.args.drive.now query.since query.until c.args.objects.now c.loop-object.object-index c.object-item.result c.args.rows.now.items c.loop-object.rows.items c.push_changes.new.rows.items
          c.as_slice.result.now before.ledger before.store lt c.object-item.is (c.as_slice.ensures.value ∙ c.in_ok-changes.ensures.changes) before.rows c.in_ok-push_changes.ensures;
    }
