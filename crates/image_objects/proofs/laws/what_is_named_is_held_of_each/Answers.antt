use Rattle.image_objects.proofs.HeldByName.{journal_held, checkpoint_held, data_held}
use Rattle.image_objects.proofs.laws.what_is_named_is_held_of_each.Goals as goal

pub returns-clause-journal : goal.returns-clause-journal
returns-clause-journal c = journal_held

pub returns-clause-checkpoint : goal.returns-clause-checkpoint
returns-clause-checkpoint c = checkpoint_held

pub returns-clause-data : goal.returns-clause-data
returns-clause-data c = data_held
