use Rattle.undo_redo.proofs.Making.{same_outside_all}
use Rattle.undo_redo.proofs.between.EntriesBetween.new.Goals as goal

pub within-requires-clause-same : goal.within-requires-clause-same
within-requires-clause-same c = same_outside_all c.args.before.now c.args.after.now
