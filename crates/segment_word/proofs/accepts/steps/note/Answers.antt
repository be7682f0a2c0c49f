use Rattle.std.proofs.Common.{rules, arith}
use Rattle.segment_word.proofs.Accepting.{notes_of}
use Rattle.segment_word.proofs.accepts.steps.note.Goals as goal

pub load-requires : goal.load-requires
load-requires g c = (search rules, omega (arith, c.requires.table.1), notes_of _ _ _ _ c.requires.drive.0 c.requires.drive.1)
