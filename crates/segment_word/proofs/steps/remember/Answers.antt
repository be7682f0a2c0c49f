use Rattle.std.proofs.Common.{rules}
use Rattle.segment_word.proofs.Moving.{remembers}
use Rattle.segment_word.proofs.steps.remember.Goals as goal

pub split_seat-requires : goal.split_seat-requires
split_seat-requires c = (search rules, search rules, remembers _ _)
