use Rattle.server.proofs.Sequence.{come_tended, same_count}
use Rattle.server.proofs.shared.SharedDrive.visit.Goals as goal

-- a step of upkeep more
pub invariant_of-self : goal.invariant_of-self
invariant_of-self g c = let held = c.self.invariant in (come_tended _ _ _ _ _ _ _ held.0 c.requires c.visit.ensures.ledger, same_count _ _ _ held.1 c.visit.ensures.ledger)

pub returns : goal.returns
returns g c = record {
  before = c.self.inside.drive;
  done = c.visit.result;
  after = c.visit.new.drive;
  begins = c.rules.ensures.base;
  visits = c.visit.ensures.visits;
  ledger = c.visit.ensures.ledger;
  needed = c.visit.ensures.needed;
}
