use Rattle.std.proofs.Common.{◌≡◌, ◌-◌, take}
use Rattle.version_store.specs.private.Names.{held_named}
use Rattle.s4_types.specs.Pointer.{Place}
use Rattle.block_log.specs.Taken.{TakesPlaces}
use Rattle.version_store.specs.Store.{times_led}
use Rattle.version_store.proofs.names.drop_names.Given as goal

abbrev pub invariant-loop-pointer : goal.invariant-loop-pointer
invariant-loop-pointer g l =
    let log = g.B.Blocks.log in
    record {
      named : (q : Place) → (log l.table).named q ≡ (log l.initial.table).named q - times_led q (take l.pointer-index l.pointers);
      held : (q : Place) → (log l.table).held q ≡ held_named (log l.initial.table).held (log l.table).named q;
      takes : TakesPlaces 0 (log l.initial.table) (log l.table);
    }
