use Rattle.std.proofs.Common.{◌≡◌, ◌++◌, take}
use Rattle.std.specs.List.{flat_map}
use Rattle.image_parts.specs.Audit.{audit_bytes}
use Rattle.migration.proofs.writing.push_audits.Given as goal

abbrev pub invariant-loop-row : goal.invariant-loop-row
invariant-loop-row l = l.out.items ≡ l.initial.out.items ++ flat_map audit_bytes (take l.row-index l.rows)
