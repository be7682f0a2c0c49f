use Rattle.std.proofs.Common.{rules, arith}
use Rattle.segment_word.proofs.Raising.{raises}
use Rattle.segment_word.proofs.steps.raise.Goals as goal

pub fetch_add-requires : goal.fetch_add-requires
fetch_add-requires c = (search rules, omega arith, raises _ _ _ _ c.requires.drive c.requires.inside c.requires.rises.0 c.requires.rises.1)
