use Rattle.std.proofs.Common.{◌≡◌, map, take}
use Rattle.restore_search.specs.Searching.{room_found}
use Rattle.restore_search.proofs.searches.rooms_found.Given as goal

-- those so far
abbrev pub invariant-loop-hiding : goal.invariant-loop-hiding
invariant-loop-hiding l = l.rooms.items ≡ map room_found (take l.hiding-index l.hidings)
