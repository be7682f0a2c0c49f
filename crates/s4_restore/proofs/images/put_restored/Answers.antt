use Rattle.std.proofs.Common.{Bool, inl, inr, subst}
use Rattle.std.proofs.lemmas.Result.{on_ok_weaker}
use Rattle.drive.specs.Fields.{DriveFields}
use Rattle.s4_images.specs.Commands.{OverImage}
use Rattle.s4_images.proofs.Kept.{untouched}
use Rattle.restore_orders.specs.Orders.{WouldChange}
use Rattle.s4_restore.proofs.images.put_restored.Goals as goal

pub returns-then-changes-clause-put : goal.returns-then-changes-clause-put
returns-then-changes-clause-put g c =
    let known = g.F.Files.contents c.args.files.now c.args.image.now in
    on_ok_weaker c.change_image.result
    (λ changed. inr (record { busy = subst (λ (b : Bool). OverImage known (λ (d : DriveFields). WouldChange d c.args.order.now b)) c.if-changes.true c.in_ok-changes.ensures.gives; changes = changed }))
    c.change_image.ensures.changed

pub returns-clause-put : goal.returns-clause-put
returns-clause-put g c =
    let known = g.F.Files.contents c.args.files.now c.args.image.now in
    let over = c.in_ok-_verdict.ensures.shows in
    inl (record {
      idle = subst (λ (b : Bool). OverImage known (λ (d : DriveFields). WouldChange d c.args.order.now b)) c.if-changes.false c.in_ok-changes.ensures.gives;
      kept = untouched known;
      shows = record { drive = over.drive; told = over.told; holds = over.holds.1 };
    })
