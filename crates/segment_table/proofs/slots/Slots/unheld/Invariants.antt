use Rattle.std.proofs.Common.{◌≡◌, ◌≤◌, length, take}
use Rattle.segment_table.specs.Slots.{unheld}
use Rattle.segment_table.proofs.slots.Slots.unheld.Given as goal

abbrev pub invariant-loop-role : goal.invariant-loop-role
invariant-loop-role l = (length l.roles ≤ 15) × (l.slots.items ≡ unheld (take l.role-index l.roles))
