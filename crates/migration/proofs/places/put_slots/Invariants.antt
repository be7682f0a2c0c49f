use Rattle.std.proofs.Common.{◌≡◌, drop}
use Rattle.migration.specs.Places.{with_places}
use Rattle.migration.proofs.places.put_slots.Given as goal

abbrev pub invariant-loop-slot : goal.invariant-loop-slot
invariant-loop-slot l = with_places l.places.items (drop l.slot-index l.slots) ≡ with_places l.initial.places.items l.slots
