use Rattle.rpc.proofs.FillingLaws.{partial_short, filled_short, topped_up}
use Rattle.rpc.proofs.filling.top_up.Goals as goal

pub fill-left-requires-clause-short : goal.fill-left-requires-clause-short
fill-left-requires-clause-short c = partial_short c.args.held.now.items c.requires.partial

pub fill-requires-clause-short : goal.fill-requires-clause-short
fill-requires-clause-short c = filled_short c.args.held.now.items c.fill-left.new.held.items c.args.piece.now c.fill-left.result.now c.requires.partial c.fill-left.ensures.filled

pub returns-clause-topped_up : goal.returns-clause-topped_up
returns-clause-topped_up c = topped_up c.args.held.now.items c.fill-left.new.held.items c.fill.new.held.items c.args.piece.now c.fill-left.result.now c.fill.result.now c.fill-left.ensures.filled c.fill.ensures.filled
