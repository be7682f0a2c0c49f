use Rattle.journal_chain.proofs.Staying.{others_stay}
use Rattle.journal_chain.proofs.laws.other_chains_stay.Goals as goal

pub returns : goal.returns
returns c = others_stay
