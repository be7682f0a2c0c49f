use Rattle.std.proofs.Common.{◌≡◌, ◌++◌, take}
use Rattle.version_store.specs.Store.{sides_told}
use Rattle.image_objects.specs.private.Places.{places_in}
use Rattle.image_objects.proofs.naming.push_entries.Given as goal

abbrev pub invariant-loop-entry : goal.invariant-loop-entry
invariant-loop-entry l = l.places.items ≡ l.initial.places.items ++ places_in (sides_told (take l.entry-index l.entries))
