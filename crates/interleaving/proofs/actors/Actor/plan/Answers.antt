use Rattle.std.proofs.Common.{subst, Ok, Err}
use Rattle.interleaving.specs.Actors.{ActorFields}
use Rattle.interleaving.specs.Moving.{Planned}
use Rattle.interleaving.specs.Acting.{Plans}
use Rattle.interleaving.specs.Carrying.{moving_of}
use Rattle.interleaving.specs.declared.answers.Answer.TheVariants as answer
use Rattle.interleaving.proofs.Told.{planned, actor_of}
use Rattle.interleaving.proofs.actors.Actor.plan.Goals as goal

pub returns-in-Ok : goal.returns-in-Ok
returns-in-Ok g c =
    let moving = moving_of g.M.Moves.planned g.M.Moves.copied c.self.inside.carried in
    let move = g.M.Moves.planned c.in-Ok.plan in
    let told = c.in-Ok.ensures in
    subst (λ (a : ActorFields). Plans c.args.frame c.args.object c.args.drive.now a answer.Done c.plan.new.drive (actor_of c.plan.new.session c.self.inside.plan (Planned move))) c.self.view_is
    (planned c.args.frame c.args.object c.args.drive.now c.plan.new.drive c.self.inside.session c.plan.new.session c.self.inside.plan moving (Ok move) told.told told.session told.ledger told.store)

pub returns-in-Err : goal.returns-in-Err
returns-in-Err g c =
    let moving = moving_of g.M.Moves.planned g.M.Moves.copied c.self.inside.carried in
    let told = c.in-Err.ensures in
    subst (λ (a : ActorFields). Plans c.args.frame c.args.object c.args.drive.now a (answer.Refused c.in-Err.refusal) c.plan.new.drive (actor_of c.plan.new.session c.self.inside.plan moving)) c.self.view_is
    (planned c.args.frame c.args.object c.args.drive.now c.plan.new.drive c.self.inside.session c.plan.new.session c.self.inside.plan moving (Err c.in-Err.refusal) told.told told.session told.ledger told.store)
