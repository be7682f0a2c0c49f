use Rattle.std.proofs.Common.{◌≡◌, ◌++◌, take}
use Rattle.version_store.specs.Store.{sides_of}
use Rattle.image_objects.specs.private.Places.{places_in}
use Rattle.image_objects.proofs.naming.push_triples.Given as goal

abbrev pub invariant-loop-triple : goal.invariant-loop-triple
invariant-loop-triple l = l.places.items ≡ l.initial.places.items ++ places_in (sides_of (take l.triple-index l.triples))
