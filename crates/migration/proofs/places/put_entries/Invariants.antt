use Rattle.std.proofs.Common.{◌≡◌, drop}
use Rattle.version_store.specs.Store.{sides_told}
use Rattle.migration.specs.Places.{with_places}
use Rattle.migration.proofs.places.put_entries.Given as goal

abbrev pub invariant-loop-entry : goal.invariant-loop-entry
invariant-loop-entry l = with_places l.places.items (sides_told (drop l.entry-index l.entries)) ≡ with_places l.initial.places.items (sides_told l.entries)
