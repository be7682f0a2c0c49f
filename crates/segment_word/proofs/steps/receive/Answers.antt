use Rattle.std.proofs.Common.{rules}
use Rattle.segment_word.proofs.Moving.{joins}
use Rattle.segment_word.proofs.steps.receive.Goals as goal

pub join_seat-requires : goal.join_seat-requires
join_seat-requires c = (search rules, search rules, search rules, search rules, joins _ _ _ _ c.requires.other.0)
