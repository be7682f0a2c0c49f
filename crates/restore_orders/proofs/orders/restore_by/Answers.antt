use Rattle.std.proofs.Common.{subst}
use Rattle.std.proofs.lemmas.Result.{on_ok_weaker}
use Rattle.drive.specs.Fields.{DriveFields}
use Rattle.restore_orders.specs.Orders.{RestoresBy}
use Rattle.restore_orders.proofs.Ordering.{restores_by}
use Rattle.restore_orders.proofs.orders.restore_by.Goals as goal

pub returns : goal.returns
returns g c =
    let order = c.args.order.now in
    let begun = c.session.new.self in
    let later = c.check_left.new.drive in
    let before = g.W.Sink.passed c.args.writer.now in
    let after = g.W.Sink.passed c.restore_at.new.writer in
    record {
      restores = on_ok_weaker c.check_left.result
          (λ left. subst (λ (d : DriveFields). RestoresBy d later order before after) c.session.ensures.same
          (restores_by begun c.has_object-had.new.drive c.restore_at.new.drive later order c.in_ok-now.now c.has_object-had.result before after
          c.has_object-had.ensures.state c.has_object-had.ensures.store c.check_left.ensures.state c.check_left.ensures.store c.in_ok-now.ensures.at c.in_ok-now.ensures.near c.has_object-had.ensures.there left c.in_ok-restore_at.ensures.restores))
          c.check_left.ensures.left;
    }
