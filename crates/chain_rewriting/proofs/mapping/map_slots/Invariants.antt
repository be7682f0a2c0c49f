use Rattle.std.proofs.Common.{◌≡◌}
use Rattle.chain_rewriting.proofs.Below.{mapped_below}
use Rattle.chain_rewriting.proofs.mapping.map_slots.Given as goal

abbrev pub invariant-loop-slot : goal.invariant-loop-slot
invariant-loop-slot g l = l.slots ≡ mapped_below (g.M.MapsPlaces.to l.by) l.slot-index l.initial.slots
