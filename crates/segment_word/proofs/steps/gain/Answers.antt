use Rattle.std.proofs.Common.{rules, arith}
use Rattle.segment_word.proofs.Pinning.{pins}
use Rattle.segment_word.proofs.steps.gain.Goals as goal

pub compare_exchange-found-requires : goal.compare_exchange-found-requires
compare_exchange-found-requires c = (search rules, search rules, pins _ _ _ _ _ _ (omega arith) (omega arith) (omega arith))
