use Rattle.std.proofs.Common.{◌∙◌, ◌<◌, length, arith}
use Rattle.history_view.proofs.Logged.{stats_on}
use Rattle.history_view.proofs.stats.stats_in.Goals as goal

pub loop-object-preserved : goal.loop-object-preserved
loop-object-preserved g c =
    let before = c.loop-object.invariant in
    let lt : c.loop-object.object-index < length c.args.objects.now = omega arith in
    record {
      ledger = c.stat_in.ensures.ledger ∙ before.ledger;
      store = c.stat_in.ensures.store ∙ before.store;
      stats = stats_on c.loop-object.drive c.args.drive.now c.args.query.now c.args.objects.now c.loop-object.object-index c.object-item.result c.loop-object.stats.items c.push_stat.new.stats.items c.in_ok-stat.stat before.ledger before.store
          lt c.object-item.is c.in_ok-stat.ensures.stat before.stats c.in_ok-push_stat.ensures;
    }
