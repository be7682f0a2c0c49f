use Rattle.std.proofs.Common.{◌≡◌, [], replicate}
use Rattle.segment_table.proofs.slots.no_slots.Given as goal

abbrev pub invariant-loop : goal.invariant-loop
invariant-loop l = l.slots.items ≡ replicate l.counter []
