use Rattle.history_cleaner.proofs.Stored.{stored_chain}
use Rattle.history_cleaner.proofs.laws.a_stored_chain_is_a_chain.Goals as goal

pub returns : goal.returns
returns c = stored_chain c.chains_are_runs.ensures
