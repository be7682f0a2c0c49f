use Rattle.image_salvage.proofs.Heading.{popped_last}
use Rattle.image_salvage.proofs.heads.newest_entry.Goals as goal

pub returns : goal.returns
returns c = popped_last c.args.block.entries c.pop.new.self.entries c.pop.result c.pop.ensures.entries c.pop.ensures.end
