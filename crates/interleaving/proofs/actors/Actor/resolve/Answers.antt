use Rattle.std.proofs.Common.{subst, Some, Ok, Err}
use Rattle.interleaving.specs.Actors.{ActorFields}
use Rattle.interleaving.specs.Acting.{Resolves}
use Rattle.interleaving.specs.Carrying.{moving_of}
use Rattle.interleaving.specs.declared.answers.Answer.TheVariants as answer
use Rattle.interleaving.proofs.Told.{resolved, actor_of}
use Rattle.interleaving.proofs.actors.Actor.resolve.Goals as goal

pub returns-in-Ok : goal.returns-in-Ok
returns-in-Ok g c =
    let read = c.args.reading in
    let moving = moving_of g.M.Moves.planned g.M.Moves.copied c.self.inside.carried in
    let told = c.in-Ok.ensures in
    subst (λ (a : ActorFields). Resolves read.object read.offset read.length read.at read.now c.args.drive.now a answer.Done c.resolve.new.self (actor_of c.resolve.new.session (Some c.in-Ok.plan) moving)) c.self.view_is
    (resolved read.object read.offset read.length read.at read.now c.args.drive.now c.resolve.new.self c.self.inside.session c.resolve.new.session c.self.inside.plan moving (Ok c.in-Ok.plan) told.step told.refused told.memory told.plan told.fits told.ledger told.store told.session told.before told.after)

pub returns-in-Err : goal.returns-in-Err
returns-in-Err g c =
    let read = c.args.reading in
    let moving = moving_of g.M.Moves.planned g.M.Moves.copied c.self.inside.carried in
    let told = c.in-Err.ensures in
    subst (λ (a : ActorFields). Resolves read.object read.offset read.length read.at read.now c.args.drive.now a (answer.Refused c.in-Err.refusal) c.resolve.new.self (actor_of c.resolve.new.session c.self.inside.plan moving)) c.self.view_is
    (resolved read.object read.offset read.length read.at read.now c.args.drive.now c.resolve.new.self c.self.inside.session c.resolve.new.session c.self.inside.plan moving (Err c.in-Err.refusal) told.step told.refused told.memory told.plan told.fits told.ledger told.store told.session told.before told.after)
