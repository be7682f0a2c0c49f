use Rattle.rpc.proofs.Refusals.{refusal_is}
use Rattle.rpc.proofs.replies.refusal_named.Goals as goal

pub returns : goal.returns
returns c = refusal_is c.args.number c.from_number.result (λ refusal e. rw e at c.from_number.ensures.found) c.from_number.ensures.only
