use Rattle.std.proofs.Common.{◌≡◌, ◌≤◌, length, map, take}
use Rattle.segment_table.specs.declared.slots.Slot.{Slot}
use Rattle.segment_table.proofs.slots.Slots.roles.Given as goal

abbrev pub invariant-loop-slot : goal.invariant-loop-slot
invariant-loop-slot l = (length l.slot-items ≤ 15) × (l.roles.items ≡ map (λ (slot : Slot). slot.role) (take l.slot-index l.slot-items))
