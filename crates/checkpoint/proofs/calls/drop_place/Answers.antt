use Rattle.checkpoint.proofs.Dropping.{option_dropped}
use Rattle.checkpoint.proofs.calls.drop_place.Goals as goal

pub returns-in-Some-clause-dropped : goal.returns-in-Some-clause-dropped
returns-in-Some-clause-dropped g c =
    (option_dropped g.met.B.Blocks.one_place_has_one_name g.met.B.Blocks.a_drop_takes_one_block (g.B.Blocks.log c.args.table.now) (g.B.Blocks.log c.drop_block.new.self) c.args.object c.args.place c.in-Some.place c.in-Some.is c.drop_block.ensures c.requires.held).held
