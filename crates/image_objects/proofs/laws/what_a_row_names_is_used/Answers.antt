use Rattle.image_objects.proofs.Named.{named_is_used, has_its_blocks}
use Rattle.image_objects.proofs.laws.what_a_row_names_is_used.Goals as goal

pub returns-clause-named : goal.returns-clause-named
returns-clause-named c = λ used row clock kind p stands named. named_is_used c.one_place_has_one_name.ensures used row clock kind p stands named

pub returns-clause-checkpoint : goal.returns-clause-checkpoint
returns-clause-checkpoint c = λ used row clock stands. has_its_blocks c.a_checkpoint_is_in_its_blocks.ensures.held used row clock stands
