use Rattle.checkpoint.proofs.Dropping.{owns}
use Rattle.checkpoint.proofs.calls.placed_blocks.Goals as goal

pub read_first-first-requires : goal.read_first-first-requires
read_first-first-requires g c =
    record { held = (owns (g.B.Blocks.log c.args.table.now).held c.args.object c.args.place c.requires.held).seen }
