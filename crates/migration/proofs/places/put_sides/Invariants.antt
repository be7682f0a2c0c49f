use Rattle.std.proofs.Common.{◌≡◌, drop}
use Rattle.version_store.specs.Store.{sides_of}
use Rattle.migration.specs.Places.{with_places}
use Rattle.migration.proofs.places.put_sides.Given as goal

abbrev pub invariant-loop-triple : goal.invariant-loop-triple
invariant-loop-triple l = with_places l.places.items (sides_of (drop l.triple-index l.triples)) ≡ with_places l.initial.places.items (sides_of l.triples)
