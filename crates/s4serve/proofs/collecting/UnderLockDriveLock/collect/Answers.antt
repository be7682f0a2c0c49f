use Rattle.s4serve.proofs.Collected.{collected_in}
use Rattle.s4serve.proofs.collecting.UnderLockDriveLock.collect.Goals as goal

-- it was collected of the drive that was shown
pub returns-clause-collected : goal.returns-clause-collected
returns-clause-collected g c = collected_in g.J.Naming.frames g.J.Naming.base c.args.last c.show.ensures.0 _ _ _ c.show.ensures.1
