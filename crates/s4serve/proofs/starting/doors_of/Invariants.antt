use Rattle.std.proofs.Common.{◌≡◌, map, take}
use Rattle.s4serve.specs.Doors.{asked_door}
use Rattle.s4serve.proofs.starting.doors_of.Given as goal

-- the doors that were asked for until now
abbrev pub invariant-loop-door : goal.invariant-loop-door
invariant-loop-door g l = record { doors : l.doors.items ≡ map asked_door (take l.door-index l.asked) }
