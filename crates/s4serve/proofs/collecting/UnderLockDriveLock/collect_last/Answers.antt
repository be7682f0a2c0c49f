use Rattle.s4serve.proofs.Collected.{closed_in}
use Rattle.s4serve.proofs.collecting.UnderLockDriveLock.collect_last.Goals as goal

-- it was collected of the drive that was shown
pub returns-clause-closed : goal.returns-clause-closed
returns-clause-closed g c = closed_in g.J.Naming.frames g.J.Naming.base c.args.start c.show.ensures.0 _ _ _ c.show.ensures.1
