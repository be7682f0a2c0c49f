use Rattle.std.proofs.Common.{◌≡◌, drop}
use Rattle.migration.specs.Moves.{moved_by}
use Rattle.migration.proofs.moves.MovesMapsPlaces.map_place.Given as goal

abbrev pub invariant-loop-one : goal.invariant-loop-one
invariant-loop-one l = moved_by (drop l.one-index l.self.list.items) l.place ≡ moved_by l.self.list.items l.place
