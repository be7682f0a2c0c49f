use Rattle.std.proofs.Common.{◌∙◌}
use Rattle.checkpoint.proofs.Dropping.{owns}
use Rattle.checkpoint.proofs.Reading.{parts_there, still_there}
use Rattle.checkpoint.proofs.calls.read_checkpoint.Goals as goal

pub read_first-requires : goal.read_first-requires
read_first-requires g c =
    record { held = (owns (g.B.Blocks.log c.args.table.now).held c.args.object c.args.place c.requires.held).seen }

pub read_part-requires : goal.read_part-requires
read_part-requires g c =
    record { held = still_there (g.B.Blocks.log c.args.table.now) (g.B.Blocks.log c.read_first.new.table) c.args.object c.place_of.result _ c.in_ok-first.ensures.same c.place_of.ensures (parts_there (g.B.Blocks.log c.args.table.now).held c.args.object c.args.place c.in_ok-first.first c.requires.held c.in_ok-first.ensures.exact).one }

pub read_part-requires-2 : goal.read_part-requires-2
read_part-requires-2 g c =
    record { held = still_there (g.B.Blocks.log c.args.table.now) (g.B.Blocks.log c.read_part.new.table) c.args.object c.place_of-2.result _ (c.in_ok-one.ensures.same ∙ c.in_ok-first.ensures.same) c.place_of-2.ensures (parts_there (g.B.Blocks.log c.args.table.now).held c.args.object c.args.place c.in_ok-first.first c.requires.held c.in_ok-first.ensures.exact).two }

pub read_part-requires-3 : goal.read_part-requires-3
read_part-requires-3 g c =
    record { held = still_there (g.B.Blocks.log c.args.table.now) (g.B.Blocks.log c.read_part-2.new.table) c.args.object c.place_of-3.result _ (c.in_ok-two.ensures.same ∙ c.in_ok-one.ensures.same ∙ c.in_ok-first.ensures.same) c.place_of-3.ensures (parts_there (g.B.Blocks.log c.args.table.now).held c.args.object c.args.place c.in_ok-first.first c.requires.held c.in_ok-first.ensures.exact).three }
