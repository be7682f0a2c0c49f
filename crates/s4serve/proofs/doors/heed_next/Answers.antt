use Rattle.std.proofs.Common.{◌∙◌, ap, subst, sym}
use Rattle.s4serve.specs.Doors.{DoorFields}
use Rattle.s4serve.specs.Heard.{IsOfDoor}
use Rattle.s4serve.proofs.HeardLemmas.{of_door}
use Rattle.s4serve.proofs.doors.heed_next.Goals as goal

-- a session is asked for at the door whose line says so
pub heed-requires-clause-door : goal.heed-requires-clause-door
heed-requires-clause-door g c =
    let lines = c.args.lines.now in
    let heard = c.in-Ok.ensures.said in
    let same = c.door.ensures ∙ ap (λ door. door.now) c.next.ensures.same.0 in
    λ lifetimes outlives. subst (λ (door : DoorFields). IsOfDoor g.J.Serving.doors door c.in-Ok.said) (sym same) (of_door g.J.Serving.doors lines.door.now lines.number lines.door.now.role heard.0 c.in-Ok.said lines.asked heard.2)
