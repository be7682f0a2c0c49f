use Rattle.std.proofs.Common.{◌≡◌, ◌++◌, map, take, Some}
use Rattle.std.specs.List.{flat_map}
use Rattle.checkpoint.specs.Held.{of_checkpoints, places_in}
use Rattle.version_store.proofs.row_places.add_older.Given as goal

abbrev pub invariant-loop-side : goal.invariant-loop-side
invariant-loop-side g l =
    let log = g.B.Blocks.log in
    record {
      added : l.pointers.items ≡ l.initial.pointers.items ++ flat_map (λ side. map Some (places_in (of_checkpoints l.object (log l.initial.table).held) side.place)) (take l.side-index l.sides);
      same : log l.table ≡ log l.initial.table;
    }
