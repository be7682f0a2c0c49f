use Rattle.std.proofs.Common.{Option, subst, ap, ◌∙◌}
use Rattle.segment_word.specs.Handles.{Held, Remembered}
use Rattle.segment_copier.specs.Moves.{IsPinOver, IsKeptPlan, copies_of}
use Rattle.segment_copier.proofs.Kept.{memory_over}
use Rattle.segment_copier.proofs.plans.MovePlan.copy.Goals as goal

abbrev as_memory : Held → Remembered
as_memory held = record { table = held.table; remembered = held.pins }

pub invariant_of-result-2 : goal.invariant_of-result-2
invariant_of-result-2 g c =
    let over : IsPinOver g.J.Naming.frames c.self.inside.places.items c.in-Some.pin = subst (λ (pin : Option Held). IsKeptPlan g.J.Naming.frames c.self.inside.places.items pin) c.in-Some.is c.self.invariant in
    memory_over g.J.Naming.frames c.self.inside.places.items c.in-Some.pin c.in_ok-copies.copies.items c.remember-memory.result over
    (c.in_ok-copies.ensures.copies ∙ ap (copies_of c.in-Some.pin.pins) c.as_slice.ensures.value)
    (c.remember-memory.ensures.memory ∙ ap as_memory c.copies_by.ensures.same)
