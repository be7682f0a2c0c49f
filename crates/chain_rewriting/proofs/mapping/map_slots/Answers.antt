use Rattle.std.proofs.Common.{Option, sym, ap, ◌∙◌, arith}
use Rattle.s4_types.specs.Pointer.{Place}
use Rattle.chain_rewriting.specs.Mapping.{mapped_slot}
use Rattle.chain_rewriting.proofs.Below.{none_below, more_below, all_below}
use Rattle.chain_rewriting.proofs.mapping.map_slots.Goals as goal

pub loop-slot-init : goal.loop-slot-init
loop-slot-init g c = none_below (g.M.MapsPlaces.to c.args.by.now) c.args.slots.now

pub loop-slot-preserved : goal.loop-slot-preserved
loop-slot-preserved g c =
    let f = g.M.MapsPlaces.to c.args.by.now in
    more_below f c.loop-slot.slot-index c.args.slots.now c.loop-slot.slots c.slot-item.result c.map_slot.result c.loop-slot.invariant (omega arith) c.slot-item.is
    (c.map_slot.ensures ∙ ap (λ (p : Option Place). mapped_slot f p) (sym c.slot-item.is))

pub returns : goal.returns
returns g c = c.loop-slot.invariant ∙ all_below (g.M.MapsPlaces.to c.args.by.now) c.loop-slot.slot-index c.args.slots.now (omega arith)
