use Rattle.kept_files.proofs.Steps.{others_of, others_then}
use Rattle.kept_files.proofs.making.made_locked.Goals as goal

pub returns-in-Ok-clause-others : goal.returns-in-Ok-clause-others
returns-in-Ok-clause-others g c = others_then _ _ _ _ (others_of _ _ _ c.make_file.ensures.others c.make_file.ensures.failed) c.lock_made.ensures.others
