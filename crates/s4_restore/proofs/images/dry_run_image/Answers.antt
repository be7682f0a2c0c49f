use Rattle.std.proofs.Common.{ℕ, List, Option, Result, Ok, Err, IfOk, OnOk, subst}
use Rattle.s4_restore.specs.Images.{WouldRestoreImage}
use Rattle.s4_restore.proofs.images.dry_run_image.Goals as goal

-- what follows of a call's value holds where it succeeds
on_ok : {A E Q : Type 0} {P : A → Type 0} → (result : Result A E) → ((value : A) → P value → Q) → IfOk result P → OnOk result Q
on_ok (Ok value) f fact = f value fact
on_ok (Err error) f fact = tt

pub returns-clause-would_restore : goal.returns-clause-would_restore
returns-clause-would_restore g c =
    on_ok c.over_image.result
    (λ verdict over. subst (λ (before : Option (List ℕ)). WouldRestoreImage (g.F.Files.contents c.args.files.now c.args.asked.now.image.now) c.args.asked.now c.args.stand_ins.now before (g.W.Sink.passed c.over_image.new.writer)) c.prepare_image.ensures.passed (record {
      order = c.order_of-order.result;
      asks = c.order_of-order.ensures c.in_ok-made.ensures.prepared;
      shows = record { drive = over.drive; told = over.told; holds = over.holds.1 };
    }))
    c.over_image.ensures.shows
