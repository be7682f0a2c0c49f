use Rattle.std.proofs.Common.{Option, refl, sym, subst, arith}
use Rattle.std.specs.Prelude.{slice_set}
use Rattle.std.proofs.lemmas.Option.{slice_get-get_or}
use Rattle.interleaving.specs.Actors.{ActorFields}
use Rattle.interleaving.specs.Running.{GoesBy}
use Rattle.interleaving.proofs.replay.by_actor.Goals as goal

pub returns : goal.returns
returns g c =
    let actors = c.args.actors.now in
    let number = c.args.number in
    let actor = c.index-actors-number.result in
    subst (λ (there : Option ActorFields). GoesBy g.M.Moves.commits there number c.args.act c.args.drive.now actors c.act.result c.act.new.drive (slice_set actors number c.act.new.self)) (sym (slice_get-get_or actors number actor (omega arith)))
    (record { actor = c.act.new.self; act = c.act.ensures; set = refl })
