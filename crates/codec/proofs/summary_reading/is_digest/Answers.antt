use Rattle.std.specs.Cmp.Lexicographic.{told_text}
use Rattle.codec.proofs.summary_reading.is_digest.Goals as goal

pub returns : goal.returns
returns c = rw (← c.digest_of.ensures, ← c.as_slice.ensures) (told_text c.as_slice.result.now c.args.digest.now c.eq.result c.eq.ensures)
