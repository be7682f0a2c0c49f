use Rattle.std.proofs.Common.{ap, sym, ◌∙◌}
use Rattle.s4_model.specs.Audit.{audit_of}
use Rattle.drive.specs.Fields.{DriveFields, state_in}
use Rattle.server.proofs.Sequence.{come_tended, same_count}
use Rattle.server.proofs.shared.SharedDrive.sweep.Goals as goal

-- a step of upkeep more
pub invariant_of-self : goal.invariant_of-self
invariant_of-self g c =
    let held = c.self.invariant in
    rw c.clean_audit.ensures (come_tended _ _ _ _ _ _ _ held.0 c.requires c.sweep.ensures.ledger, same_count _ _ _ held.1 c.sweep.ensures.ledger)

-- the state is that of the history, which the cut leaves
pub returns : goal.returns
returns g c = record {
  before = c.self.inside.drive;
  after = c.clean_audit.new.drive;
  begins = c.rules.ensures.base;
  swept = rw c.clean_audit.ensures c.sweep.ensures.swept;
  objects = rw c.clean_audit.ensures c.sweep.ensures.objects;
  ledger = rw c.clean_audit.ensures c.sweep.ensures.ledger;
  audit = ap (λ (d : DriveFields). d.audit) c.clean_audit.ensures ∙ sym (ap (λ (d : DriveFields). audit_of (state_in d)) c.clean_audit.ensures);
}
