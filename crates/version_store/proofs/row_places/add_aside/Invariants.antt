use Rattle.std.proofs.Common.{◌≡◌, ◌++◌, take}
use Rattle.version_store.specs.Store.{pointers_of_sides}
use Rattle.version_store.proofs.row_places.add_aside.Given as goal

abbrev pub invariant-loop-side : goal.invariant-loop-side
invariant-loop-side g l =
    let log = g.B.Blocks.log in
    record {
      added : l.pointers.items ≡ l.initial.pointers.items ++ pointers_of_sides (log l.initial.table).held l.object (take l.side-index l.sides);
      same : log l.table ≡ log l.initial.table;
    }
