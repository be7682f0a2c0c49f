use Rattle.std.proofs.Common.{◌∙◌, ap, List}
use Rattle.std.proofs.lemmas.Result.{IfOk-weaker}
use Rattle.s4_types.specs.declared.audit_rows.AuditRow.{AuditRow}
use Rattle.s4_model.specs.Audit.{rows_from}
use Rattle.drive.specs.Fields.{state_in}
use Rattle.verifier.proofs.SeenParts.{audit_is, audit_keeps}
use Rattle.verifier.proofs.seen_parts.audit_seen.Goals as goal

pub returns-clause-rows : goal.returns-clause-rows
returns-clause-rows g c =
    IfOk-weaker c.rows_from.result _ _
    (λ left is. audit_is (state_in c.args.drive.now) c.args.moment c.floor_seen.result c.in_ok-rows.rows left.items c.in_ok-rows.ensures.rows c.floor_seen.ensures
    (is ∙ ap (λ (rows : List AuditRow). rows_from c.floor_seen.result rows) c.as_slice.ensures))
    c.rows_from.ensures.ok

pub returns-clause-kept : goal.returns-clause-kept
returns-clause-kept g c =
    IfOk-weaker c.rows_from.result _ _
    (λ left is. audit_keeps (state_in c.args.drive.now) c.args.moment c.floor_seen.result c.in_ok-rows.rows left.items c.in_ok-rows.ensures.kept c.floor_seen.ensures
    (is ∙ ap (λ (rows : List AuditRow). rows_from c.floor_seen.result rows) c.as_slice.ensures))
    c.rows_from.ensures.ok
