use Rattle.std.proofs.Common.{rules, arith}
use Rattle.segment_word.proofs.Accepting.{learns_of}
use Rattle.segment_word.proofs.accepts.steps.learn.Goals as goal

pub load-requires : goal.load-requires
load-requires c = (search rules, omega (arith, c.requires.table.1), learns_of _ _ _ c.requires.drive.0 c.requires.drive.1)
