use Rattle.s4serve_command.proofs.CreationLemmas.{asked_at, usage_at}
use Rattle.s4serve_command.proofs.creating.creation_in.Goals as goal

pub returns-clause-asked : goal.returns-clause-asked
returns-clause-asked c = asked_at _ _ _ _ c.creation_at.result c.text_in-frames.ensures.same c.text_in-keep.ensures.same c.creation_at.ensures.asked

pub returns-clause-usage : goal.returns-clause-usage
returns-clause-usage c = usage_at _ _ _ _ c.creation_at.result c.text_in-frames.ensures.same c.text_in-keep.ensures.same c.creation_at.ensures.usage
