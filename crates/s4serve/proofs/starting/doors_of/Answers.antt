use Rattle.std.proofs.Common.{◌∙◌, ap, arith, map, sym}
use Rattle.std.proofs.lemmas.List.{take_all}
use Rattle.s4serve.specs.Doors.{asked_door}
use Rattle.s4serve.proofs.DoorLemmas.{doors_more, is_asked}
use Rattle.s4serve.proofs.starting.doors_of.Goals as goal

pub returns : goal.returns
returns g c = record {
  doors = c.loop-door.invariant.doors ∙ ap (map asked_door) (take_all c.loop-door.door-index c.args.asked.now (omega arith)) ∙ sym c.requires.are;
}

-- each is one that was asked for
pub add_door-requires : goal.add_door-requires
add_door-requires g c = is_asked _ c.args.asked.now c.loop-door.door-index _ c.requires.are c.loop-door-test.true

-- one door more
pub loop-door-preserved : goal.loop-door-preserved
loop-door-preserved g c = record {
  doors = doors_more c.args.asked.now c.loop-door.door-index _ c.loop-door.doors.items c.add_door.new.doors.items c.loop-door-test.true c.loop-door.invariant.doors c.in_ok-add_door.ensures.added;
}
