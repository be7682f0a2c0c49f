use Rattle.std.proofs.Common.{rules, arith}
use Rattle.segment_word.proofs.Accepting.{takes_of}
use Rattle.segment_word.proofs.accepts.steps.take.Goals as goal

pub fetch_add-requires : goal.fetch_add-requires
fetch_add-requires g c = (search rules, omega (arith, c.requires.table.1), takes_of _ _ _ _ _ c.requires.drive.0 c.requires.drive.1 c.requires.room)
