use Rattle.version_store.proofs.Checkpointing.{last_moment_is}
use Rattle.image_objects.proofs.Telling.{one_more}
use Rattle.image_objects.proofs.laws.moments_are_told_one_by_one.Goals as goal

pub returns-clause-moments : goal.returns-clause-moments
returns-clause-moments c = one_more

pub returns-clause-last : goal.returns-clause-last
returns-clause-last c = last_moment_is 0
