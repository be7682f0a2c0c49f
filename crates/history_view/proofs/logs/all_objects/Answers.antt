use Rattle.drive.specs.Fields.{store_of}
use Rattle.history_view.specs.Logs.{AreRowsFrom}
use Rattle.history_view.proofs.Fronts.{front_whole}
use Rattle.history_view.proofs.logs.all_objects.Goals as goal

pub returns : goal.returns
returns g c =
    front_whole (AreRowsFrom (store_of c.args.drive.now)) c.loop-object.objects.items c.loop-object.last c.loop-object.invariant (λ o above. c.in_default.ensures.none o above)
