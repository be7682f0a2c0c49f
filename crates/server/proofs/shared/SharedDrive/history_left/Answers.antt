use Rattle.server.proofs.Sequence.{come_tended, same_count}
use Rattle.server.proofs.shared.SharedDrive.history_left.Goals as goal

-- a step of upkeep more
pub invariant_of-self : goal.invariant_of-self
invariant_of-self g c = let held = c.self.invariant in (come_tended _ _ _ _ _ _ _ held.0 c.requires c.history_left.ensures, same_count _ _ _ held.1 c.history_left.ensures)
