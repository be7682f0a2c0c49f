use Rattle.std.proofs.Common.{rules}
use Rattle.segment_word.proofs.Looking.{reads}
use Rattle.segment_word.proofs.steps.read.Goals as goal

pub load-requires : goal.load-requires
load-requires c = (search rules, search rules, reads _ _ _ _)
