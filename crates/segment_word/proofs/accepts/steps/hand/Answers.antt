use Rattle.std.proofs.Common.{rules, arith}
use Rattle.segment_word.proofs.AcceptMoving.{splits}
use Rattle.segment_word.proofs.accepts.steps.hand.Goals as goal

pub split_seat-requires : goal.split_seat-requires
split_seat-requires c = (search rules, omega (arith, c.requires.table.1), splits _ _)
