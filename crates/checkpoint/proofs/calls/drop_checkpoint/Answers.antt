use Rattle.std.proofs.Common.{subst}
use Rattle.checkpoint.specs.Held.{HasItsBlocks}
use Rattle.checkpoint.proofs.Dropping.{owns, ready, slot_own, option_still, still_own, drops_all, drops_from}
use Rattle.checkpoint.proofs.calls.drop_checkpoint.Goals as goal

pub read_first-first-requires : goal.read_first-first-requires
read_first-first-requires g c =
    record { held = (owns (g.B.Blocks.log c.args.table.now).held c.args.object c.in-Some.place (subst (HasItsBlocks (g.B.Blocks.log c.args.table.now).held c.args.object) c.in-Some.is c.requires.held)).seen }

pub drop_place-requires : goal.drop_place-requires
drop_place-requires g c =
    record { held = (slot_own (g.B.Blocks.log c.read_first-first.new.table) c.args.object c.part_place.result _ c.part_place.ensures (ready (g.B.Blocks.log c.args.table.now) (g.B.Blocks.log c.read_first-first.new.table) c.args.object c.in-Some.place c.read_first-first.result c.read_first-first.ensures.same (subst (HasItsBlocks (g.B.Blocks.log c.args.table.now).held c.args.object) c.in-Some.is c.requires.held) c.read_first-first.ensures.exact).one) }

pub drop_place-requires-2 : goal.drop_place-requires-2
drop_place-requires-2 g c =
    record { held = (option_still (g.B.Blocks.log c.read_first-first.new.table).held (g.B.Blocks.log c.drop_place.new.table).held c.args.object _ c.part_place-2.result c.drop_place.ensures.dropped (slot_own (g.B.Blocks.log c.read_first-first.new.table) c.args.object c.part_place-2.result _ c.part_place-2.ensures (ready (g.B.Blocks.log c.args.table.now) (g.B.Blocks.log c.read_first-first.new.table) c.args.object c.in-Some.place c.read_first-first.result c.read_first-first.ensures.same (subst (HasItsBlocks (g.B.Blocks.log c.args.table.now).held c.args.object) c.in-Some.is c.requires.held) c.read_first-first.ensures.exact).two)) }

pub drop_place-requires-3 : goal.drop_place-requires-3
drop_place-requires-3 g c =
    record { held = (option_still (g.B.Blocks.log c.drop_place.new.table).held (g.B.Blocks.log c.drop_place-2.new.table).held c.args.object _ c.part_place-3.result c.drop_place-2.ensures.dropped (option_still (g.B.Blocks.log c.read_first-first.new.table).held (g.B.Blocks.log c.drop_place.new.table).held c.args.object _ c.part_place-3.result c.drop_place.ensures.dropped (slot_own (g.B.Blocks.log c.read_first-first.new.table) c.args.object c.part_place-3.result _ c.part_place-3.ensures (ready (g.B.Blocks.log c.args.table.now) (g.B.Blocks.log c.read_first-first.new.table) c.args.object c.in-Some.place c.read_first-first.result c.read_first-first.ensures.same (subst (HasItsBlocks (g.B.Blocks.log c.args.table.now).held c.args.object) c.in-Some.is c.requires.held) c.read_first-first.ensures.exact).three))) }

pub drop_place-requires-4 : goal.drop_place-requires-4
drop_place-requires-4 g c =
    record { held = still_own (g.B.Blocks.log c.drop_place-2.new.table).held (g.B.Blocks.log c.drop_place-3.new.table).held c.args.object _ c.in-Some.place c.drop_place-3.ensures.dropped (still_own (g.B.Blocks.log c.drop_place.new.table).held (g.B.Blocks.log c.drop_place-2.new.table).held c.args.object _ c.in-Some.place c.drop_place-2.ensures.dropped (still_own (g.B.Blocks.log c.read_first-first.new.table).held (g.B.Blocks.log c.drop_place.new.table).held c.args.object _ c.in-Some.place c.drop_place.ensures.dropped (ready (g.B.Blocks.log c.args.table.now) (g.B.Blocks.log c.read_first-first.new.table) c.args.object c.in-Some.place c.read_first-first.result c.read_first-first.ensures.same (subst (HasItsBlocks (g.B.Blocks.log c.args.table.now).held c.args.object) c.in-Some.is c.requires.held) c.read_first-first.ensures.exact).last)) }

pub returns-clause-dropped : goal.returns-clause-dropped
returns-clause-dropped g c =
    drops_from (g.B.Blocks.log c.args.table.now) (g.B.Blocks.log c.read_first-first.new.table) (g.B.Blocks.log c.drop_place-4.new.table).held c.args.object c.args.place c.in-Some.place c.read_first-first.ensures.same c.in-Some.is (drops_all (g.B.Blocks.log c.read_first-first.new.table).held (g.B.Blocks.log c.drop_place.new.table).held (g.B.Blocks.log c.drop_place-2.new.table).held (g.B.Blocks.log c.drop_place-3.new.table).held (g.B.Blocks.log c.drop_place-4.new.table).held c.args.object c.in-Some.place c.read_first-first.result c.part_place.result c.part_place-2.result c.part_place-3.result (ready (g.B.Blocks.log c.args.table.now) (g.B.Blocks.log c.read_first-first.new.table) c.args.object c.in-Some.place c.read_first-first.result c.read_first-first.ensures.same (subst (HasItsBlocks (g.B.Blocks.log c.args.table.now).held c.args.object) c.in-Some.is c.requires.held) c.read_first-first.ensures.exact).is c.part_place.ensures c.part_place-2.ensures c.part_place-3.ensures c.drop_place.ensures.dropped c.drop_place-2.ensures.dropped c.drop_place-3.ensures.dropped c.drop_place-4.ensures.dropped)
