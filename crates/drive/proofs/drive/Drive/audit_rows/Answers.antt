use Rattle.std.proofs.Common.{◌≡◌, ap, ◌∙◌}
use Rattle.s4_model.specs.Audit.{rows_from, audit_of, KeepsAudit}
use Rattle.drive.specs.Fields.{DriveFields, state_in, store_of}
use Rattle.drive.specs.Keeping.{IsKeptDrive}
use Rattle.drive.proofs.Parts.{kept_of}
use Rattle.drive.proofs.Auditing.{audit_of_parts, cut_rows, are_audit_rows}
use Rattle.drive.proofs.drive.Drive.audit_rows.Goals as goal

pub returns-clause-rows : goal.returns-clause-rows
returns-clause-rows g c =
    let d : DriveFields = c.args.self.now in
    let kept : KeepsAudit (state_in d) d.audit = audit_of_parts d g.J.Naming.base c.self.inside.history c.self.inside.store c.self.inside.audit.rows c.self.inside.window c.self.inside.next c.self.view_is c.self.invariant in
    let stands : IsKeptDrive (state_in d) (store_of d) c.self.inside.window c.self.inside.next = kept_of d g.J.Naming.base c.self.inside.history c.self.inside.store c.self.inside.audit.rows c.self.inside.window c.self.inside.next c.self.view_is c.self.invariant in
    cut_rows (state_in d) d.audit c.in_ok-rows.rows c.floor.result kept (c.floor.ensures ∙ stands.window.floor)
    (c.in_ok-rows.ensures.ok ∙ ap (λ (x : DriveFields). rows_from c.floor.result x.audit) c.self.view_is)

pub returns-clause-kept : goal.returns-clause-kept
returns-clause-kept g c =
    let d : DriveFields = c.args.self.now in
    let kept : KeepsAudit (state_in d) d.audit = audit_of_parts d g.J.Naming.base c.self.inside.history c.self.inside.store c.self.inside.audit.rows c.self.inside.window c.self.inside.next c.self.view_is c.self.invariant in
    let stands : IsKeptDrive (state_in d) (store_of d) c.self.inside.window c.self.inside.next = kept_of d g.J.Naming.base c.self.inside.history c.self.inside.store c.self.inside.audit.rows c.self.inside.window c.self.inside.next c.self.view_is c.self.invariant in
    let is : c.in_ok-rows.rows ≡ audit_of (state_in d) = cut_rows (state_in d) d.audit c.in_ok-rows.rows c.floor.result kept (c.floor.ensures ∙ stands.window.floor)
    (c.in_ok-rows.ensures.ok ∙ ap (λ (x : DriveFields). rows_from c.floor.result x.audit) c.self.view_is) in
    are_audit_rows c.the_audit_goes_on_row_by_row.ensures.kept (state_in d) d.audit c.in_ok-rows.rows kept stands.sound is c.in_ok-rows.ensures.ascend
