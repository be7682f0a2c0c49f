use Rattle.std.proofs.Common.{ℕ, List, Option, subst}
use Rattle.std.proofs.lemmas.Result.{on_ok_weaker}
use Rattle.s4_restore.specs.Images.{RestoresImage}
use Rattle.s4_restore.proofs.images.restore_image.Goals as goal

pub returns-clause-restores : goal.returns-clause-restores
returns-clause-restores g c =
    let known = g.F.Files.contents c.args.files.now c.args.asked.now.image.now in
    let known' = g.F.Files.contents c.put_restored.new.files c.args.asked.now.image.now in
    on_ok_weaker c.put_restored.result
    (λ put. subst (λ (before : Option (List ℕ)). RestoresImage known known' c.args.asked.now c.args.stand_ins.now before (g.W.Sink.passed c.put_restored.new.writer)) c.prepare_image.ensures.passed
    (record { order = c.order_of-order.result; asks = c.order_of-order.ensures c.in_ok-made.ensures.prepared; done = put }))
    c.put_restored.ensures.put
