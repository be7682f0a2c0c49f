use Rattle.std.proofs.Common.{◌≡◌, ◌++◌, take}
use Rattle.std.specs.List.{AllByRecursion, flat_map}
use Rattle.image_parts.specs.Audit.{IsAuditPart, audit_bytes}
use Rattle.verifier.specs.Audit.{audit_part}
use Rattle.verifier.proofs.audit.push_audit_rows.Given as goal

abbrev pub invariant-loop-row : goal.invariant-loop-row
invariant-loop-row l = record {
  items : l.out.items ≡ l.initial.out.items ++ flat_map (λ row. audit_bytes (audit_part row)) (take l.row-index l.rows);
  fit : AllByRecursion (λ row. IsAuditPart (audit_part row)) (take l.row-index l.rows);
}
