use Rattle.verifier.proofs.AuditRows.{AuditRead}
use Rattle.verifier.proofs.audit.read_audit.Given as goal

abbrev pub invariant-loop-part : goal.invariant-loop-part
invariant-loop-part l = AuditRead l.parts l.last l.log.rows l.part-iterator
