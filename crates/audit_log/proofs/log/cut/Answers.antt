use Rattle.std.proofs.Common.{◌≡◌, ◌<◌, true, false, List, length, sym, ap, subst, ◌∙◌}
use Rattle.s4_types.specs.declared.audit_rows.AuditRow.{AuditRow}
use Rattle.s4_model.specs.Audit.{rows_from}
use Rattle.audit_log.specs.Log.{begins_below}
use Rattle.s4_model.specs.Audit.{MomentsAscend}
use Rattle.audit_log.proofs.Rows.{none_below, first_goes, rest_ascends, shorter}
use Rattle.audit_log.proofs.log.cut.Goals as goal

pub loop-floor-preserved : goal.loop-floor-preserved
loop-floor-preserved c =
    let first : begins_below c.args.floor c.loop-floor.rows.items ≡ true = sym c.begins_below.ensures ∙ c.loop-floor-test.true in
    record {
      left = ap (rows_from c.args.floor) c.pop_front-row.ensures.rest ∙ first_goes c.args.floor c.loop-floor.rows.items first ∙ c.loop-floor.invariant.left;
      ascend = subst MomentsAscend (sym c.pop_front-row.ensures.rest) (rest_ascends c.loop-floor.rows.items c.loop-floor.invariant.ascend);
    }

pub loop-floor-smaller : goal.loop-floor-smaller
loop-floor-smaller c =
    let first : begins_below c.args.floor c.loop-floor.rows.items ≡ true = sym c.begins_below.ensures ∙ c.loop-floor-test.true in
    subst (λ (left : List AuditRow). length left < length c.loop-floor.rows.items) (sym c.pop_front-row.ensures.rest) (shorter c.args.floor c.loop-floor.rows.items first)

pub returns-clause-rows : goal.returns-clause-rows
returns-clause-rows c =
    let none : begins_below c.args.floor c.loop-floor.rows.items ≡ false = sym c.begins_below.ensures ∙ c.loop-floor-test.false in
    sym (none_below c.args.floor c.loop-floor.rows.items c.loop-floor.invariant.ascend none) ∙ c.loop-floor.invariant.left
