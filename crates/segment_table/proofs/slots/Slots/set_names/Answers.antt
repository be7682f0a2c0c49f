use Rattle.std.proofs.Common.{◌≤◌, List, length, sym, subst, arith}
use Rattle.segment_table.specs.declared.slots.Slot.{Slot}
use Rattle.segment_table.proofs.HeldCounts.{count_few}
use Rattle.segment_table.proofs.slots.Slots.set_names.Goals as goal

pub held_after-self-inside-requires-clause-few : goal.held_after-self-inside-requires-clause-few
held_after-self-inside-requires-clause-few c =
    let few : length c.self.inside.slots.items ≤ 15 = subst (λ (s : List Slot). length s ≤ 15) (sym c.self.view_is) c.names-before.ensures.few in
    let is = c.self.invariant in
    omega (arith, count_few c.self.inside.slots.items, few, is)
