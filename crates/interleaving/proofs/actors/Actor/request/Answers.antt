use Rattle.std.proofs.Common.{subst}
use Rattle.interleaving.specs.Actors.{ActorFields}
use Rattle.interleaving.specs.Acting.{Requests}
use Rattle.interleaving.specs.Carrying.{moving_of}
use Rattle.interleaving.specs.declared.answers.Answer.TheVariants as answer
use Rattle.interleaving.proofs.Told.{requested, actor_of}
use Rattle.interleaving.proofs.actors.Actor.request.Goals as goal

pub returns : goal.returns
returns g c =
    let moving = moving_of g.M.Moves.planned g.M.Moves.copied c.self.inside.carried in
    let told = c.request.ensures in
    subst (λ (a : ActorFields). Requests c.args.request c.args.now c.args.drive.now a (answer.Reply c.request.result) c.request.new.self (actor_of c.request.new.session c.self.inside.plan moving)) c.self.view_is
    (requested c.args.request c.args.now c.args.drive.now c.request.new.self c.self.inside.session c.request.new.session c.self.inside.plan moving c.request.result told.step told.refused told.memory told.stored told.fits told.session told.owners told.before told.after)
