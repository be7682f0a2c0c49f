use Rattle.std.proofs.Common.{◌≡◌, ◌+◌, take}
use Rattle.s4_types.specs.Pointer.{Place}
use Rattle.block_log.specs.Taken.{TakesPlaces}
use Rattle.version_store.specs.Store.{times_led}
use Rattle.version_store.proofs.names.hold_names.Given as goal

abbrev pub invariant-loop-pointer : goal.invariant-loop-pointer
invariant-loop-pointer g l =
    let log = g.B.Blocks.log in
    record {
      named : (q : Place) → (log l.table).named q ≡ times_led q (take l.pointer-index l.pointers) + (log l.initial.table).named q;
      held : (log l.table).held ≡ (log l.initial.table).held;
      takes : TakesPlaces 0 (log l.initial.table) (log l.table);
    }
