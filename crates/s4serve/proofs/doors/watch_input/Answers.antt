use Rattle.std.proofs.Common.{◌≡◌, ◌<◌, length, rules}
use Rattle.std.specs.List.{HoldsAt}
use Rattle.s4serve.specs.Doors.{DoorFields}
use Rattle.s4serve.proofs.DoorLemmas.{door_at, read_at}
use Rattle.s4serve.proofs.doors.watch_input.Goals as goal

-- the door of this number
pub lines_at-lines-requires-clause-asked : goal.lines_at-lines-requires-clause-asked
lines_at-lines-requires-clause-asked g c =
    let there : HoldsAt (λ (at : DoorFields). c.in-Some.door.now ≡ at) c.args.service.now.doors.items c.args.number = search rules in
    let within : c.args.number < length c.args.service.now.doors.items = search rules in
    λ lifetimes outlives. door_at g.J.Serving.doors c.args.service.now.doors.items c.args.number c.in-Some.door.now c.args.service.now.asked (within, there)

-- and its own input
pub lines_at-lines-requires-clause-reads : goal.lines_at-lines-requires-clause-reads
lines_at-lines-requires-clause-reads g c =
    let there : HoldsAt (λ (at : DoorFields). c.in-Some.door.now ≡ at) c.args.service.now.doors.items c.args.number = search rules in
    let within : c.args.number < length c.args.service.now.doors.items = search rules in
    let at = door_at g.J.Serving.doors c.args.service.now.doors.items c.args.number c.in-Some.door.now c.args.service.now.asked (within, there) in
    λ lifetimes outlives. read_at g.D.Fifos.reads g.J.Serving.doors c.args.number c.in-Some.door.now c.args.input at c.requires
