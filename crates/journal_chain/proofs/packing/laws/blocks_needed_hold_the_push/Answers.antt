use Rattle.journal_chain.proofs.Pushing.{push_held, whole_counted}
use Rattle.journal_chain.proofs.packing.laws.blocks_needed_hold_the_push.Goals as goal

pub returns : goal.returns
returns c = record { push = push_held; whole = whole_counted }
