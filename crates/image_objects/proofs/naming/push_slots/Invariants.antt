use Rattle.std.proofs.Common.{◌≡◌, ◌++◌, take}
use Rattle.image_objects.specs.private.Places.{places_in}
use Rattle.image_objects.proofs.naming.push_slots.Given as goal

abbrev pub invariant-loop-slot : goal.invariant-loop-slot
invariant-loop-slot l = l.places.items ≡ l.initial.places.items ++ places_in (take l.slot-index l.slots)
