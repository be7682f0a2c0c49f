use Rattle.std.proofs.Common.{rules, arith}
use Rattle.segment_word.proofs.Accepting.{sheds_of}
use Rattle.segment_word.proofs.accepts.steps.shed.Goals as goal

pub load-requires : goal.load-requires
load-requires c = (search rules, omega (arith, c.requires.table.1), sheds_of _ _ _ _ _ c.requires.both)
