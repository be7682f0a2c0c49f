use Rattle.std.proofs.Common.{rules}
use Rattle.segment_word.proofs.Looking.{looks}
use Rattle.segment_word.proofs.steps.look.Goals as goal

pub load-requires : goal.load-requires
load-requires c = (search rules, search rules, looks _ _ _ _ c.requires.drive)
