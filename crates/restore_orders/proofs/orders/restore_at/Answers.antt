use Rattle.std.proofs.lemmas.Result.{on_ok_weaker}
use Rattle.restore_orders.proofs.Ordering.{restores_at}
use Rattle.restore_orders.proofs.orders.restore_at.Goals as goal

pub returns : goal.returns
returns g c =
    let passed = g.W.Sink.passed in
    record {
      restores = on_ok_weaker c.write_lines.result
          (λ skips. restores_at c.args.drive.now c.chosen_by.new.drive c.compact_for.new.drive c.restore_in_reach.new.drive c.args.order.now c.args.now c.in_ok-at.at c.in_ok-chosen.chosen.items c.as_slice-chosen.result.now
          (passed c.args.writer.now) (passed c.restore_in_reach.new.writer) (passed c.write_lines.new.writer) c.in_ok-at.ensures.moment c.as_slice-chosen.ensures.value c.in_ok-at.ensures.readable c.in_ok-chosen.ensures.chosen
          (record { state = c.in_ok-chosen.ensures.state; store = c.in_ok-chosen.ensures.store }) c.in_ok-compact_for.ensures.compacted c.in_ok-restore_in_reach.ensures.restores skips)
          c.write_lines.ensures.lines;
    }
