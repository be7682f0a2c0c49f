use Rattle.s4serve_command.proofs.CreationLemmas.{not_created_at}
use Rattle.s4serve_command.proofs.creating.creation_at.Goals as goal

pub returns-in-Err-clause-usage : goal.returns-in-Err-clause-usage
returns-in-Err-clause-usage c =
    not_created_at c.args.frames c.args.keep c.in-Some-Some.frames c.in-Some-Some.keep c.in-Some-Some.is-0 c.in-Some-Some.is-1 c.in-Err.ensures.usage
