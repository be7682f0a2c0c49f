use Rattle.journal_chain.proofs.Staying.{empty_held}
use Rattle.journal_chain.proofs.laws.an_empty_chain_is_held.Goals as goal

pub returns : goal.returns
returns c = empty_held
