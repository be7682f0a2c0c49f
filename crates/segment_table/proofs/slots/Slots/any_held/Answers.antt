use Rattle.std.proofs.Common.{ltb, ap, sym, ◌∙◌}
use Rattle.std.specs.List.{list_any}
use Rattle.segment_table.specs.declared.slots.Slot.{Slot}
use Rattle.segment_table.specs.Slots.{is_held}
use Rattle.segment_table.proofs.HeldCounts.{any_counted}
use Rattle.segment_table.proofs.slots.Slots.any_held.Goals as goal

pub returns : goal.returns
returns c = ap (ltb 0) c.self.invariant ∙ sym (any_counted c.self.inside.slots.items) ∙ ap (list_any (λ (slot : Slot). is_held slot)) c.self.view_is
