use Rattle.segment_word.proofs.AcceptFits.{sessions_apart}
use Rattle.segment_word.proofs.accepts.laws.sessions_share_none.Goals as goal

pub returns : goal.returns
returns c = sessions_apart
