use Rattle.std.proofs.Common.{◌≡◌, ◌+◌, ◌-◌, length, ap, arith, rules}
use Rattle.image_parts.specs.Audit.{audits_in}
use Rattle.image_parts.proofs.AuditLaws.{next_audit}
use Rattle.image_parts.proofs.audit.AuditPartsIterator.next.Goals as goal

pub returns-clause-steps : goal.returns-clause-steps
returns-clause-steps c = next_audit c.args.self.now c.self.inside.count c.self.inside.bytes.now c.split_at.result.1.now c.first_audit-row.result c.self.view_is c.if-self-eq0.false c.first_audit-row.ensures c.split_at.ensures.back

pub returns-clause-goes : goal.returns-clause-goes
returns-clause-goes c =
    let steps = next_audit c.args.self.now c.self.inside.count c.self.inside.bytes.now c.split_at.result.1.now c.first_audit-row.result c.self.view_is c.if-self-eq0.false c.first_audit-row.ensures c.split_at.ensures.back in
    let shorter : length c.args.self.now ≡ length (audits_in (c.self.inside.count - 1) c.split_at.result.1.now) + 1 = omega (arith, ap length steps) in
    search rules
