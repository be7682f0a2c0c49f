use Rattle.std.proofs.Common.{◌≡◌, length}
use Rattle.s4_model.specs.Audit.{rows_from}
use Rattle.s4_model.specs.Audit.{MomentsAscend}
use Rattle.audit_log.proofs.log.cut.Given as goal

-- what went was below the floor
abbrev pub invariant-loop-floor : goal.invariant-loop-floor
invariant-loop-floor l = record {
  left : rows_from l.floor l.rows.items ≡ rows_from l.floor l.fn.rows.items;
  ascend : MomentsAscend l.rows.items;
}

abbrev pub decreases-loop-floor : goal.decreases-loop-floor
decreases-loop-floor l = length l.rows.items
