use Rattle.segment_word.proofs.AcceptFits.{told_apart}
use Rattle.segment_word.proofs.accepts.laws.told_share_none.Goals as goal

pub returns : goal.returns
returns c = told_apart
