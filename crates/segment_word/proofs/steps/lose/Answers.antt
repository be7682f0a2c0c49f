use Rattle.std.proofs.Common.{rules}
use Rattle.segment_word.proofs.Pinning.{unpins}
use Rattle.segment_word.proofs.steps.lose.Goals as goal

pub fetch_sub-requires : goal.fetch_sub-requires
fetch_sub-requires c = let t = c.requires.newest in (search rules, search rules, unpins _ _ _ _ t.0 _ t.2 t.1)
