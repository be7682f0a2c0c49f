use Rattle.std.specs.Cmp.Lexicographic.{told_text}
use Rattle.codec.specs.Fields.{zeros}
use Rattle.codec.proofs.summary_reading.is_blank.Goals as goal

pub returns : goal.returns
unfolding zeros
returns c = told_text c.args.block.now (zeros 512) c.eq.result c.eq.ensures
