use Rattle.std.proofs.Common.{ap, sym, ◌∙◌, length}
use Rattle.image_parts.proofs.AuditLaws.{audits_count}
use Rattle.image_parts.proofs.audit.AuditParts.len.Goals as goal

pub returns : goal.returns
returns c = sym (audits_count c.self.inside.count c.self.inside.bytes.now) ∙ ap length c.self.view_is
