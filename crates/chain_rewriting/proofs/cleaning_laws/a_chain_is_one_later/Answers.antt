use Rattle.chain_rewriting.proofs.Growing.{one_later}
use Rattle.chain_rewriting.proofs.cleaning_laws.a_chain_is_one_later.Goals as goal

pub returns : goal.returns
returns c = one_later
