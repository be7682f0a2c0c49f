use Rattle.journal_chain.proofs.Adding.{filled-added}
use Rattle.journal_chain.proofs.packing.laws.filled_bytes_after.Goals as goal

pub returns : goal.returns
returns c = filled-added
