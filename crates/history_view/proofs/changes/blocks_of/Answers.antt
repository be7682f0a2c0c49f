use Rattle.history_view.proofs.Asked.{blocks_are}
use Rattle.history_view.proofs.changes.blocks_of.Goals as goal

pub returns-in-len2-up : goal.returns-in-len2-up
returns-in-len2-up c = blocks_are c.args.triples.now c.first-item.result c.last-item.result c.in-len2-up.len_at_least c.first-item.is c.last-item.is
