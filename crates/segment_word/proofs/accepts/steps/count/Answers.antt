use Rattle.std.proofs.Common.{rules, arith}
use Rattle.segment_word.proofs.Accepting.{counts}
use Rattle.segment_word.proofs.accepts.steps.count.Goals as goal

pub load-requires : goal.load-requires
load-requires c = (search rules, omega (arith, c.requires.table.1), counts _ _ _ c.requires.drive)
