use Rattle.std.proofs.Common.{◌≡◌, ◌++◌}
use Rattle.migration.proofs.copying.audit_of.Given as goal

abbrev pub invariant-loop-row : goal.invariant-loop-row
invariant-loop-row l = l.audit.items ++ l.row-iterator ≡ l.parts.audit
