use Rattle.std.proofs.Common.{◌≡◌, ◌++◌, ◌+◌, ◌*◌, length, take}
use Rattle.std.specs.List.{flat_map, AllByRecursion}
use Rattle.codec.specs.Fields.{slot}
use Rattle.codec.specs.Checkpoint.{IsSlot}
use Rattle.codec.proofs.pointers.put_slots.Given as goal

abbrev pub invariant-loop-slot : goal.invariant-loop-slot
invariant-loop-slot g l = record {
  items : l.out.items ≡ l.initial.out.items ++ flat_map slot (take l.slot-index l.slots);
  len : length l.out.items ≡ length l.initial.out.items + 8 * l.slot-index;
  range : AllByRecursion IsSlot (take l.slot-index l.slots);
}
